-- A branch whose client transaction has accepted a 2xx has ended with it, so that each further 2xx that it hands up is owed.
use Rattle.std.proofs.Common.{◌≡◌, ◌∙◌, ◌⊎◌, ◌++◌, ◌∷◌, ℕ, true, false, List, [], length, map, Option, Some, None, ap, refl, sym, subst, inl, inr, nat_lt, slice_get, not}
use Rattle.std.proofs.lemmas.Bool.{and_from, and_parts, cond-false, cond-true, not-true, or_left, or_right}
use Rattle.fork_model.specs.Event.{Event, FinalAnswer}
use Rattle.fork_model.specs.Event as fork
use Rattle.fork_model.specs.Log.{Log, added, table_of}
use Rattle.fork_model.specs.Reply.{IsUp, Reply, Up, Nothing, Provisional, Success, Final, success, success_goes_up}
use Rattle.fork_model.specs.Step.{next}
use Rattle.fork_model.specs.Steps.{BranchesGoOn}
use Rattle.fork_model.specs.Table.{Kind, Row, Table, is_accepted, is_open, is_row}
use Rattle.fork_model.specs.Table as table
use Rattle.sip_text.specs.Text.{MessageText}
use Rattle.sip_uri.specs.declared.hop.Hop.{Hop}
use Rattle.sip_txn.specs.declared.event.TxEvent.{TxEvent}
use Rattle.sip_txn.specs.declared.event.TxEvent.TheVariants as event
use Rattle.call_model.proofs.laws.Logs.{table_added}
use Rattle.call_model.specs.Built.{status_of}
use Rattle.call_model.specs.Call.{Call, nth_branch, rows_of}
use Rattle.call_model.specs.Client.{client_out}
use Rattle.call_model.specs.OpenedRequest.{is_invite}
use Rattle.call_model.specs.Branch.{Branch}
use Rattle.call_model.specs.Posting.{call_tag, owed_by}
use Rattle.call_model.specs.Response.{challenges_by, contacts_for, event_by, offer_of}
use Rattle.call_model.specs.Server as server
use Rattle.call_model.specs.Server.{Owed}
use Rattle.call_model.specs.Sound.{IsSound}
use Rattle.call_model.specs.Step.{Input, Output, Step}
use Rattle.call_model.specs.Take as to
use Rattle.call_model.specs.Take.{TakesAs, going_up, is_passed, branch_after, branch_posted, response_event}
use Rattle.call_laws.specs.Finals.{is_success}
use Rattle.call_laws.proofs.Branches.{AcceptsNow, accepted_in, has_accepted, state, success_passed}
use Rattle.call_laws.proofs.Serving.{Serves, Beside, Posted, Cancelled, CancelledBoth, Acked, Faulted, Ticked, Repeated, Sent, Dropped, Again, Okayed, serves}
use Rattle.call_laws.proofs.Succeeds.{accepted_stays, accepts_row, row_of}

abbrev pub IsAcceptedAt : Call → ℕ → Type 0
IsAcceptedAt call n = is_row is_accepted (slice_get (rows_of call) n) ≡ true

abbrev pub KeepsAccepted : Call → Type 0
KeepsAccepted call = (n : ℕ) (branch : Branch) → nth_branch call n ≡ Some branch → has_accepted branch.client ≡ true → IsAcceptedAt call n

module _ (goes_on : BranchesGoOn) (now : ℕ) (call new : Call) (input : Input) (output : Output) where
  same_log : new.log ≡ call.log → (n : ℕ) → IsAcceptedAt call n → IsAcceptedAt new n
  same_log l n e = ap (λ (x : Log). is_row is_accepted (slice_get (table_of x).rows n)) l ∙ e

  more_log : (ev : Event) (reply : Reply) → new.log ≡ added call.log call_tag ev reply → (n : ℕ) → IsAcceptedAt call n → IsAcceptedAt new n
  more_log ev reply l n e =
      ap (λ (t : Table). is_row is_accepted (slice_get t.rows n)) (ap table_of l ∙ table_added call.log call_tag ev reply)
      ∙ accepted_stays (table_of call.log) (next (table_of call.log) ev (length call.log.history)) (goes_on (table_of call.log) ev (length call.log.history)) n e

  rows_stay : Serves now call input output new → (n : ℕ) → IsAcceptedAt call n → IsAcceptedAt new n
  rows_stay (Beside l s) = same_log l
  rows_stay (Posted ev response reply goes is l s) = more_log ev reply l
  rows_stay (Cancelled cancel hop marks l s) = same_log l
  rows_stay (CancelledBoth cancel hop ev reply marks is l s) = more_log ev reply l
  rows_stay (Acked l s) = same_log l
  rows_stay (Faulted why l s) = same_log l
  rows_stay (Ticked sends out is l s) = same_log l
  rows_stay (Repeated sends is l s) = same_log l
  rows_stay (Sent owed rest m is made sends out l s) = same_log l
  rows_stay (Dropped owed rest m is made sends out l s) = same_log l
  rows_stay (Again rest is out l s) = same_log l
  rows_stay (Okayed cancel hop rest is out l s) = same_log l

  old_part : (n : ℕ) → accepted_in (nth_branch call n) ≡ true → (branch : Branch) × (nth_branch call n ≡ Some branch) × (has_accepted branch.client ≡ true)
  old_part n e = by (nth_branch call n) refl e
    where
      by : (l : Option Branch) → nth_branch call n ≡ l → accepted_in l ≡ true → (branch : Branch) × (nth_branch call n ≡ Some branch) × (has_accepted branch.client ≡ true)
      by None there e = absurd cc
      by (Some branch) there e = (branch, there, e)

  -- by this step its row ends so
  accepts_now : IsSound call → (n : ℕ) → AcceptsNow now call input new n → IsAcceptedAt new n
  accepts_now sound n (branch, a, reply, there, waits, small, l) =
      let row = row_of is_open (slice_get (rows_of call) n) ((sound.branches n branch there).open_yet waits) in
      ap (λ (t : Table). is_row is_accepted (slice_get t.rows n)) (ap table_of l ∙ table_added call.log call_tag (fork.Answer n a) reply)
      ∙ accepts_row (table_of call.log) n (length call.log.history) a row.0 row.1 row.2 small

  pub accepted_step : IsSound call → Step now call input new output → KeepsAccepted call → KeepsAccepted new
  accepted_step sound h keeps n branch there is =
      elim (((state now call input new output h).each n branch there).client is) [
        | inl before ↦
            let part = old_part n before in
            rows_stay (serves now call input new output h) n (keeps n part.0 part.1 part.2)
        | inr accepts ↦ accepts_now sound n accepts
      ]

-- ---- what it hands up is owed

-- a status of a 2xx
pub success_parts : (status : ℕ) → is_success status ≡ true → (nat_lt status 200 ≡ false) × (nat_lt status 300 ≡ true)
success_parts status e = let both = and_parts (nat_lt status 300) (not (nat_lt status 200)) e in (not-true (nat_lt status 200) both.1, both.0)

goes_up_of : (t : Table) (n : ℕ) (a : FinalAnswer) → t.kind ≡ table.Invite → nat_lt a.status 300 ≡ true
    → (is_row is_open (slice_get t.rows n) ≡ true) ⊎ (is_row is_accepted (slice_get t.rows n) ≡ true) → success t (fork.Answer n a) ≡ Some n
goes_up_of t n a kind small stands =
    cond-true _ _ _ (and_from (nat_lt a.status 300) (success_goes_up t t.kind (slice_get t.rows n)) small (ap (λ (k : Kind). success_goes_up t k (slice_get t.rows n)) kind ∙ by stands))
  where
    by : (is_row is_open (slice_get t.rows n) ≡ true) ⊎ (is_row is_accepted (slice_get t.rows n) ≡ true) → success_goes_up t table.Invite (slice_get t.rows n) ≡ true
    by (inl e) = or_left (is_row is_open (slice_get t.rows n)) (is_row is_accepted (slice_get t.rows n)) e
    by (inr e) = or_right (is_row is_open (slice_get t.rows n)) (is_row is_accepted (slice_get t.rows n)) e

owed_of_up : (t u : Table) (n : ℕ) (a : FinalAnswer) (m : MessageText) (up : Up) → success t (fork.Answer n a) ≡ Some n → IsUp t (fork.Answer n a) u up
    → owed_by up (Some m) ≡ server.Passed m ∷ []
owed_of_up t u n a m (Provisional k) goes is = absurd cc
owed_of_up t u n a m (Success k) goes is = refl
owed_of_up t u n a m (Final choice) goes is = absurd (let h : None ≡ Some n = sym is.1 ∙ goes in cc)
owed_of_up t u n a m Nothing goes is = absurd (let h : None ≡ Some n = sym is.1 ∙ goes in cc)

-- a 2xx of an INVITE that is posted comes to be owed
pub success_owed : (now : ℕ) (call new : Call) (n at : ℕ) (m : MessageText) (source : Hop) → IsSound call → KeepsAccepted call → is_invite call.opened ≡ true
    → is_success (status_of m) ≡ true → TakesAs call now m source (to.Client n) (to.Posted at) new → new.server.owed ≡ call.server.owed ++ server.Passed m ∷ []
success_owed now call new n at m source sound keeps invited success_is (branch, destination, there, goes, (passes, reply, placed, first, leads, posts)) =
    ap (λ (c : Call). c.server.owed) posts.follows ∙ ap (λ (os : List Owed). call.server.owed ++ os) owed
  where
    status : (nat_lt (status_of m) 200 ≡ false) × (nat_lt (status_of m) 300 ≡ true)
    status = success_parts (status_of m) success_is

    answer : FinalAnswer
    answer = record {
      status = status_of m;
      offers = map offer_of (contacts_for call.opened.tried (status_of m) m);
      challenges = challenges_by (status_of m) m;
    }

    said : event_by call.opened.tried n (status_of m) m ≡ fork.Answer n answer
    said = cond-false _ _ _ status.0

    stands : (is_row is_open (slice_get (rows_of call) n) ≡ true) ⊎ (is_row is_accepted (slice_get (rows_of call) n) ≡ true)
    stands =
        let P : TxEvent → Type 0 = λ ev. is_passed (client_out ev now branch.client).pass ≡ true in
        let ev : response_event (status_of m) ≡ event.Success = cond-false _ _ _ status.0 ∙ cond-true _ _ _ status.1 in
        elim (success_passed now branch.client (subst P ev passes)) [
          | inl waits ↦ inl ((sound.branches n branch there).open_yet waits)
          | inr has ↦ inr (keeps n branch there has)
        ]

    kind : (table_of call.log).kind ≡ table.Invite
    kind = sound.kind ∙ cond-true _ _ _ invited

    owed : owed_by reply.up (going_up (status_of m) m) ≡ server.Passed m ∷ []
    owed =
        let U : Event → Type 0 = λ v. IsUp (table_of call.log) v (next (table_of call.log) v (length call.log.history)) reply.up in
        ap (owed_by reply.up) (cond-true _ _ _ status.1)
        ∙ owed_of_up (table_of call.log) (next (table_of call.log) (fork.Answer n answer) (length call.log.history)) n answer m reply.up
        (goes_up_of (table_of call.log) n answer kind status.1 stands) (subst U said posts.reply_is.up)
