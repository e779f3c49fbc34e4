-- CallState of a call that are set to what they are, and what is due where two calls have the same parts.
use Rattle.std.proofs.Common.{◌≡◌, ◌∙◌, ◌&&◌, ◌∷◌, ℕ, zero, suc, List, [], Option, Some, None, is_none, ap, refl, sym, slice_get}
use Rattle.std.proofs.lemmas.Option.{same_Some}
use Rattle.fork_model.specs.Table.{is_row, is_trying, is_cancelled}
use Rattle.sip_txn.specs.Timers.{is_due}
use Rattle.call_model.specs.Call.{Call, found, nth_branch, set_branch, with_branch, rows_of, lacks_cancel, owes_ack_on, runs_timer_c}
use Rattle.call_model.specs.Due.{Action, SendRequest, SendCancel, SendAck, SendAnswer, TickServer, TickClient, TickCancel, FireTimerC, GiveUp, cancel_at, client_at, give_up_at, is_any, is_due_at, timer_c_at}
use Rattle.call_model.specs.Branch.{Branch}
use Rattle.call_model.specs.Server as server
use Rattle.call_model.specs.Server.{Owed}

with_same : (branches : List (Option Branch)) (n : ℕ) (branch : Branch) → found (slice_get branches n) ≡ Some branch → with_branch branches n branch ≡ branches
with_same [] n branch is = refl
with_same (None ∷ branches) zero branch is = absurd cc
with_same (Some l ∷ branches) zero branch is = ap (λ (x : Branch). Some x ∷ branches) (sym (same_Some l branch is))
with_same (l ∷ branches) (suc n) branch is = ap (λ (others : List (Option Branch)). l ∷ others) (with_same branches n branch is)

-- a part that is set to what it is
pub set_same : (call : Call) (n : ℕ) (branch other : Branch) → nth_branch call n ≡ Some branch → other ≡ branch → set_branch call n other ≡ call
set_same call n branch other is same =
    ap (λ (l : Branch). set_branch call n l) same ∙ ap (λ (branches : List (Option Branch)). record call { branches = branches }) (with_same call.branches n branch is)

-- two calls with the same rows, parts of branches, and side to the caller have the same due
pub same_due : (call new : Call) → rows_of new ≡ rows_of call → new.branches ≡ call.branches → new.server.machine ≡ call.server.machine
    → new.server.owed ≡ call.server.owed → (now : ℕ) (action : Action) → is_due_at new now action ≡ is_due_at call now action
same_due call new rows branches machine owed now (SendRequest n) = λ i. is_row is_trying (slice_get (rows i) n) && is_none (found (slice_get (branches i) n))
same_due call new rows branches machine owed now (SendCancel n) = λ i. is_row is_cancelled (slice_get (rows i) n) && lacks_cancel (found (slice_get (branches i) n))
same_due call new rows branches machine owed now (SendAck n) = λ i. owes_ack_on (found (slice_get (branches i) n))
same_due call new rows branches machine owed now SendAnswer = λ i. is_any (owed i)
same_due call new rows branches machine owed now TickServer = λ i. is_due now (server.served_due (machine i))
same_due call new rows branches machine owed now (TickClient n) = λ i. is_due now (client_at (found (slice_get (branches i) n)))
same_due call new rows branches machine owed now (TickCancel n) = λ i. is_due now (cancel_at (found (slice_get (branches i) n)))
same_due call new rows branches machine owed now (FireTimerC n) =
    λ i. is_row runs_timer_c (slice_get (rows i) n) && is_due now (timer_c_at (found (slice_get (branches i) n)))
same_due call new rows branches machine owed now (GiveUp n) =
    λ i. is_row is_cancelled (slice_get (rows i) n) && is_due now (give_up_at (found (slice_get (branches i) n)))
