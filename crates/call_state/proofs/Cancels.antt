-- The caller's CANCEL is posted, and what that of a branch says.
use Rattle.call_state.proofs.Common.{◌≡◌, ◌∙◌, ℕ, ap, sym, true, List, [], ◌∷◌, ◌++◌, drop, length, Option, None, append-nil, ◌&&◌, map, not, Cancel, Reply, next, IsAdded, Log, added, core_of, table_of, MessageText}
use Rattle.call_state.proofs.Common.{Hop, Call, Destination, Branch, call_tag, gone_on, no_branch, owed_by, owes, rows_more, destinations_of, Owed, CancelOk, IsSound, CancelledBy, Posted, cancels, closed_by, ByCancel, reason_lines}
use Rattle.call_state.proofs.Common.{Bool, Closing, Some, cond, false, is_some, nth_branch, refl}
use Rattle.sip_text.specs.Text.{HeaderText}
use Rattle.call_model.specs.Closing.{reasons_by, reasons_if}
use Rattle.call_model.specs.Due.{timer_c_at}
use Rattle.call_model.specs.Pump.{reasons_of}
use Rattle.std.proofs.Math.Seq.{drop-length}
use Rattle.fork_model.specs.Table as table
use Rattle.fork_model.specs.OpenBranches.{FittingEventsAreTaken}
use Rattle.call_model.specs.Take.{owes_cancel_ok}
use Rattle.call_model.proofs.laws.Fitting.{cancel_fits}

pub cancel_posts : FittingEventsAreTaken → (call new : Call) (cancel : MessageText) (to : Hop) (reply : Reply) (log : Log) (at : ℕ)
    → cancels call ≡ true
    → IsSound call
    → IsAdded call.log call_tag Cancel reply log
    → length (next (table_of call.log) Cancel (length call.log.history)).rows ≡ length (table_of call.log).rows
    → at ≡ length call.log.history
    → new ≡ record call { log = log; closing = ByCancel (reason_lines cancel); server = record call.server { owed = (call.server.owed ++ CancelOk cancel to ∷ []) ++ owed_by reply.up None } }
    → CancelledBy call cancel to (Posted at) new
cancel_posts taken call new cancel to reply log at closes sound is none at_is new_is =
    let more = added call.log call_tag Cancel reply in
    let mid = closed_by (ByCancel (reason_lines cancel)) (owes_cancel_ok call cancel to) in
    let same : length (table_of more).rows ≡ length (table_of call.log).rows =
    ap (λ (l : Log). length (table_of l).rows) (sym is.whole) ∙ ap (λ (t : table.Table). length t.rows) is.goes_on ∙ none in
    let nothing : rows_more call.log more ≡ [] =
    ap (λ (n : ℕ). drop n (table_of more).rows) (sym same) ∙ drop-length (table_of more).rows in
    let destinations : call.destinations ≡ call.destinations ++ destinations_of call.opened [] (rows_more call.log more) =
    sym (ap (λ (rs : List table.Row). call.destinations ++ destinations_of call.opened [] rs) nothing ∙ append-nil call.destinations) in
    let branches : call.branches ≡ call.branches ++ map no_branch (rows_more call.log more) =
    sym (ap (λ (rs : List table.Row). call.branches ++ map no_branch rs) nothing ∙ append-nil call.branches) in
    let fits : (table.is_invite (table_of call.log).kind && not (table_of call.log).closed) ≡ true =
    cancel_fits call sound closes in
    let follows : new ≡ owes (gone_on mid [] more) (owed_by reply.up None) =
    new_is
    ∙ ap (λ (l : Log). record mid { log = l; server = record mid.server { owed = mid.server.owed ++ owed_by reply.up None } }) is.whole
    ∙ ap (λ (ws : List Destination). record mid { log = more; destinations = ws; server = record mid.server { owed = mid.server.owed ++ owed_by reply.up None } }) destinations
    ∙ ap (λ (ls : List (Option Branch)). record mid { log = more; destinations = call.destinations ++ destinations_of call.opened [] (rows_more call.log more); branches = ls; server = record mid.server { owed = mid.server.owed ++ owed_by reply.up None } }) branches in
    (closes, reply, is.replied.position ∙ sym at_is, record { taken = taken (core_of call.log) Cancel fits; reply_is = is.replied; follows = follows })

pub owed_both : (first second third fourth ups more : List Owed) (okay : Owed) → second ≡ first → third ≡ second ++ okay ∷ [] → fourth ≡ third ++ ups → ups ≡ more → fourth ≡ (first ++ okay ∷ []) ++ more
owed_both first second third fourth ups more okay a b d e =
    d ∙ ap (λ (x : List Owed). third ++ x) e ∙ ap (λ (x : List Owed). x ++ more) (b ∙ ap (λ (x : List Owed). x ++ okay ∷ []) a)

-- ---- what the CANCEL of a branch says

said : (b : Bool) (at : Option ℕ) (closing : Closing) → (b && is_some at) ≡ true → cond {A = List HeaderText} b (reasons_if at closing) [] ≡ reasons_by closing
said true None closing e = absurd cc
said true (Some at) closing e = refl
said false at closing e = absurd cc

unsaid : (b : Bool) (at : Option ℕ) (closing : Closing) → (b && is_some at) ≡ false → cond {A = List HeaderText} b (reasons_if at closing) [] ≡ []
unsaid true None closing e = refl
unsaid true (Some at) closing e = absurd cc
unsaid false at closing e = refl

pub reasons_said : (call : Call) (n : ℕ) → (call.opened.reasons && is_some (timer_c_at (nth_branch call n))) ≡ true → reasons_of call n ≡ reasons_by call.closing
reasons_said call n e = said call.opened.reasons (timer_c_at (nth_branch call n)) call.closing e

pub reasons_unsaid : (call : Call) (n : ℕ) → (call.opened.reasons && is_some (timer_c_at (nth_branch call n))) ≡ false → reasons_of call n ≡ []
reasons_unsaid call n e = unsaid call.opened.reasons (timer_c_at (nth_branch call n)) call.closing e
