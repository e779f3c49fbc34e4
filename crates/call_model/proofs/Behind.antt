-- What each step leaves of the failures that branches keep, and where a new one comes from.
use Rattle.call_model.proofs.Common.{◌≡◌, ◌∙◌, ◌⊎◌, ℕ, zero, suc, ap, refl, sym, subst, inl, inr, true, false, Bool, List, [], ◌∷◌, ◌++◌, map, length, Option, Some, None, slice_get, ◌↔◌, IsTrue, cond, nat_lt, unwrap_or, option_map}
use Rattle.call_model.proofs.Common.{and_parts, cond-false, cond-true, Event, FinalAnswer, Reply, HasStored, StoredAnswersCame, RowsKeepTheirNumbers, Effect, answers, change_at, closed_state, effect, next, settled, settled_row, with_effect}
use Rattle.call_model.proofs.Common.{with_state, Kind, Row, State, StoredAnswer, Table, is_open, is_row, stored_of, may_start, HasFirst, Log, added, event_posted, events_of, table_of, MessageText, ContactText, Hop, TxEvent}
use Rattle.call_model.proofs.Common.{InviteClientState, OtherClientState, invite_client, other_client, row_out, Cause, answer_in, answer_of, status_of, Call, found, nth_branch, row_passes, set_branch, with_branch, ClientTransaction, InviteClient, OtherClient}
use Rattle.call_model.proofs.Common.{client_out, Action, is_due_at, Fails, FaultsBy, FaultsClient, cancel_faulted, faulted_cancel, Destination, kind_of, CancelTransaction, Branch, Posts, call_tag, Pumped, Send, Did, Does, Pumps, SendsAnswer, AnswersBy}
use Rattle.call_model.proofs.Common.{AnswersWith, TicksClientBy, FiresTimerC, challenges_by, contacts_for, event_by, offer_of, OpenedRequest, Owed, Passed, Final, Again, CancelOk, IsSound, awaits, invite_awaits, other_awaits, CancelledBy, Responds, Taken}
use Rattle.call_model.proofs.Common.{TakesAs, is_passed, branch_after, branch_posted, response_event}
use Rattle.std.specs.Prelude.{is_none}
use Rattle.fork_model.specs.Event as fork
use Rattle.fork_model.specs.Sources.{EventsStoreAnswers, IsStoredBy}
use Rattle.fork_model.specs.Steps.{BranchesGoOn}
use Rattle.fork_model.specs.Table as table
use Rattle.fork_model.specs.Log.{Posted}
use Rattle.sip_txn.specs.declared.event.TxEvent.TheVariants as event
use Rattle.sip_txn.specs.declared.timers.MachineInput.TheVariants as input
use Rattle.sip_txn.specs.declared.invite_client.InviteClientState.TheVariants as invite
use Rattle.sip_txn.specs.declared.other_client.OtherClientState.TheVariants as other
use Rattle.call_model.specs.declared.cause.Cause.TheVariants as cause
use Rattle.call_model.specs.Behind.{BegunKeepsAnswers, ComesFirst, FirstsStayOrCome, KeepsEvent, StaysFirst, StepsKeepAnswers}
use Rattle.call_model.specs.Call.{closed_by}
use Rattle.call_model.specs.Closing.{closing_after}
use Rattle.call_model.specs.Due as due
use Rattle.call_model.specs.Pump.{Idle}
use Rattle.call_model.specs.Server.{Trying}
use Rattle.call_model.specs.Step as step
use Rattle.call_model.specs.Step.{Turn}
use Rattle.call_model.specs.Take as to
use Rattle.call_model.proofs.FirstStays.{first_before}
use Rattle.call_model.proofs.KeptBuilt.{at_or, branch_more, here_with}
use Rattle.call_model.proofs.laws.SoundTables.{table_added}

-- ---- parts

-- every branch keeps the same response
abbrev pub SameAnswers : Call → Call → Type 0
SameAnswers call new = (k : ℕ) → answer_in (nth_branch new k) ≡ answer_in (nth_branch call k)

same_with : (branches : List (Option Branch)) (n k : ℕ) (branch : Branch) → answer_in (found (slice_get branches n)) ≡ branch.answer
    → answer_in (found (slice_get (with_branch branches n branch) k)) ≡ answer_in (found (slice_get branches k))
same_with [] n k branch e = refl
same_with (x ∷ branches) zero zero branch e = sym e
same_with (x ∷ branches) zero (suc k) branch e = refl
same_with (x ∷ branches) (suc n) zero branch e = refl
same_with (x ∷ branches) (suc n) (suc k) branch e = same_with branches n k branch e

-- the part of a branch with the same answer
same_branch : (call : Call) (n : ℕ) (old branch : Branch) → nth_branch call n ≡ Some old → branch.answer ≡ old.answer → SameAnswers call (set_branch call n branch)
same_branch call n old branch there e k = same_with call.branches n k branch (ap answer_in there ∙ sym e)

-- ---- the events of a log

more_there : {X : Type 0} (xs ys : List X) (k : ℕ) (x : X) → slice_get xs k ≡ Some x → slice_get (xs ++ ys) k ≡ Some x
more_there [] ys k x e = absurd cc
more_there (y ∷ xs) ys zero x e = e
more_there (y ∷ xs) ys (suc k) x e = more_there xs ys k x e

events_added : (history : List Posted) (p : Posted) → events_of (history ++ p ∷ []) ≡ events_of history ++ event_posted p ∷ []
events_added [] p = refl
events_added (q ∷ history) p = ap (λ (es : List Event). event_posted q ∷ es) (events_added history p)

last_event : (history : List Posted) (p : Posted) → slice_get (events_of (history ++ p ∷ [])) (length history) ≡ Some (event_posted p)
last_event [] p = refl
last_event (q ∷ history) p = last_event history p

-- ---- without an event

-- what a call was opened with, and its log
abbrev base_of : Call → OpenedRequest × Log
base_of call = (call.opened, call.log)

-- the event that a response of branch n is to a call that was opened so
abbrev said_by : (n : ℕ) → MessageText → OpenedRequest → Option Event
said_by n m opened = Some (event_by opened.tried n (status_of m) m)

-- a branch that is first with an answer that came was so before
abbrev pub FirstsStay : Call → Call → Type 0
FirstsStay call new =
    (n : ℕ) (stored : StoredAnswer) → HasStored (table_of new.log) n stored → stored.received ≡ true → HasFirst (table_of new.log) n → StaysFirst call new n stored

kept_same : (call new : Call) → base_of new ≡ base_of call → SameAnswers call new → FirstsStay call new
kept_same call new b same n stored has came first =
    let e : new.log ≡ call.log = ap (λ (base : OpenedRequest × Log). base.1) b in
    let H : Log → Type 0 = λ l. HasStored (table_of l) n stored in
    let F : Log → Type 0 = λ l. HasFirst (table_of l) n in
    record {
      has = subst H e has;
      first = subst F e first;
      kept = same n;
      opened = ap (λ (base : OpenedRequest × Log). base.0) b;
      events = λ event there. ap (λ (l : Log). slice_get (events_of l.history) stored.arrival) e ∙ there;
    }

kept_as : (call new x : Call) → new ≡ x → base_of x ≡ base_of call → SameAnswers call x → FirstsStay call new
kept_as call new x e b same =
    let P : Call → Type 0 = λ c. FirstsStay call c in
    subst P (sym e) (kept_same call x b same)

-- ---- with an event

module _ (stores : EventsStoreAnswers) (goes_on : BranchesGoOn) (grows : RowsKeepTheirNumbers) where
  -- an answer that came, is first and that the event may store was stored before, or comes now
  abbrev pub StoresAs : (ℕ → StoredAnswer → Type 0) → Call → Event → Call → Type 0
  StoresAs Comes call ev new =
      (n : ℕ) (stored : StoredAnswer) → HasStored (next (table_of call.log) ev (length call.log.history)) n stored → IsStoredBy ev (length call.log.history) n stored
      → stored.received ≡ true → HasFirst (table_of new.log) n → HasStored (table_of call.log) n stored ⊎ Comes n stored

  posted : (Comes : ℕ → StoredAnswer → Type 0) (call mid new : Call) (ev : Event) (contacts : List ContactText) (response : Option MessageText) (reply : Reply)
      → base_of mid ≡ base_of call
      → ((n : ℕ) (stored : StoredAnswer) → HasStored (table_of call.log) n stored → answer_in (nth_branch mid n) ≡ answer_in (nth_branch call n))
      → Posts mid ev contacts response reply new
      → StoresAs Comes call ev new
      → (n : ℕ) (stored : StoredAnswer) → HasStored (table_of new.log) n stored → stored.received ≡ true → HasFirst (table_of new.log) n
      → StaysFirst call new n stored ⊎ Comes n stored
  posted Comes call mid new ev contacts response reply b same posts by n stored has came leads =
      let T : Table → Type 0 = λ t. HasStored t n stored in
      let now : HasStored (next (table_of call.log) ev (length call.log.history)) n stored = subst T goes has in
      by_source now (stores (table_of call.log) ev (length call.log.history) n stored now)
    where
      log : new.log ≡ added call.log call_tag ev reply
      log = ap (λ (x : Call). x.log) posts.follows ∙ ap (λ (base : OpenedRequest × Log). added base.1 call_tag ev reply) b

      goes : table_of new.log ≡ next (table_of call.log) ev (length call.log.history)
      goes = ap table_of log ∙ table_added call.log call_tag ev reply

      stays : HasStored (table_of call.log) n stored → StaysFirst call new n stored
      stays old =
          let F : Table → Type 0 = λ t. HasFirst t n in
          let branches : answer_in (nth_branch new n) ≡ answer_in (nth_branch mid n) = ap (λ (x : Call). answer_in (nth_branch x n)) posts.follows ∙ ap answer_in (branch_more mid.branches _ n) in
          record {
            has = old;
            first = first_before (table_of call.log) (next (table_of call.log) ev (length call.log.history)) (goes_on (table_of call.log) ev (length call.log.history))
                (grows (table_of call.log) ev (length call.log.history)).rules n stored old (subst F goes leads);
            kept = branches ∙ same n stored old;
            opened = ap (λ (x : Call). x.opened) posts.follows ∙ ap (λ (base : OpenedRequest × Log). base.0) b;
            events = λ event there.
                ap (λ (x : Log). slice_get (events_of x.history) stored.arrival) log
                ∙ ap (λ (es : List Event). slice_get es stored.arrival) (events_added call.log.history (record { tag = call_tag; event = ev }))
                ∙ more_there (events_of call.log.history) _ stored.arrival event there;
          }

      at_last : HasStored (table_of call.log) n stored ⊎ Comes n stored → StaysFirst call new n stored ⊎ Comes n stored
      at_last (inr comes) = inr comes
      at_last (inl old) = inl (stays old)

      by_source : HasStored (next (table_of call.log) ev (length call.log.history)) n stored → HasStored (table_of call.log) n stored ⊎ IsStoredBy ev (length call.log.history) n stored
          → StaysFirst call new n stored ⊎ Comes n stored
      by_source now (inl old) = inl (stays old)
      by_source now (inr is) = at_last (by n stored now is came leads)

  abbrev Never : ℕ → StoredAnswer → Type 0
  Never n stored = ⊥

  -- an event that is no response stores nothing that came
  assumed : (call mid new : Call) (ev : Event) (contacts : List ContactText) (response : Option MessageText) (reply : Reply)
      → base_of mid ≡ base_of call → SameAnswers call mid
      → ((at n : ℕ) (stored : StoredAnswer) → IsStoredBy ev at n stored → stored.received ≡ true → ⊥)
      → Posts mid ev contacts response reply new → FirstsStay call new
  assumed call mid new ev contacts response reply b same never posts n stored has came first =
      only (posted Never call mid new ev contacts response reply b (λ k s h. same k) posts (λ k s h is received leads. absurd (never _ k s is received)) n stored has came first)
    where
      only : StaysFirst call new n stored ⊎ Never n stored → StaysFirst call new n stored
      only (inl stays) = stays
      only (inr never_so) = absurd never_so

  no_timeout : (k at n : ℕ) (stored : StoredAnswer) → IsStoredBy (fork.Timeout k) at n stored → stored.received ≡ true → ⊥
  no_timeout k at n stored by came = let e : false ≡ true = sym by.1.received ∙ came in absurd cc

  no_fault : (k at n : ℕ) (stored : StoredAnswer) → IsStoredBy (fork.Fault k) at n stored → stored.received ≡ true → ⊥
  no_fault k at n stored by came = let e : false ≡ true = sym by.1.received ∙ came in absurd cc

  no_timer_c : (k at n : ℕ) (stored : StoredAnswer) → IsStoredBy (fork.TimerC k) at n stored → stored.received ≡ true → ⊥
  no_timer_c k at n stored by came = let e : false ≡ true = sym by.1.received ∙ came in absurd cc

  -- ---- an action of the pump

  answered : (call : Call) (now : ℕ) (rest : List Owed) (m : MessageText) (b : Bool) (p : Pumped) (new : Call) → AnswersBy call now rest m b p new → FirstsStay call new
  answered call now rest m true p new (out, e) = kept_as call new _ e refl (λ k. refl)
  answered call now rest m false p new (out, e) = kept_as call new _ e refl (λ k. refl)

  answered_with : (call : Call) (now : ℕ) (rest : List Owed) (o : Option MessageText) (p : Pumped) (new : Call) → AnswersWith call now rest o p new → FirstsStay call new
  answered_with call now rest None p new h = absurd h
  answered_with call now rest (Some m) p new h = answered call now rest m _ p new h

  paid : (call : Call) (now : ℕ) (owed : List Owed) (p : Pumped) (new : Call) → SendsAnswer call now owed p new → FirstsStay call new
  paid call now [] p new h = absurd h
  paid call now (Again ∷ rest) p new (out, e) = kept_as call new _ e refl (λ k. refl)
  paid call now (CancelOk cancel hop ∷ rest) p new (out, e) = kept_as call new _ e refl (λ k. refl)
  paid call now (Trying ∷ rest) p new h = answered_with call now rest (answer_of call Trying) p new h
  paid call now (Passed m ∷ rest) p new h = answered_with call now rest (answer_of call (Passed m)) p new h
  paid call now (Final choice ∷ rest) p new h = answered_with call now rest (answer_of call (Final choice)) p new h

  ticked : (call : Call) (now n : ℕ) (destination : Destination) (branch : Branch) (b : Bool) (p : Pumped) (new : Call) → nth_branch call n ≡ Some branch → TicksClientBy call now n destination branch b p new → FirstsStay call new
  ticked call now n destination branch true p new there (out, reply, posts) = assumed call _ new _ _ _ reply refl (same_branch call n branch _ there refl) (no_timeout n) posts
  ticked call now n destination branch false p new there (out, e) = kept_as call new _ e refl (same_branch call n branch _ there refl)

  fired : (call : Call) (now n : ℕ) (branch : Branch) (b : Bool) (p : Pumped) (new : Call) → nth_branch call n ≡ Some branch → FiresTimerC call now n branch b p new → FirstsStay call new
  fired call now n branch true p new there (out, reply, posts) = assumed call _ new _ _ _ reply refl (same_branch call n branch _ there refl) (no_timer_c n) posts
  fired call now n branch false p new there (out, reply, posts) = assumed call _ new _ _ _ reply refl (same_branch call n branch _ there refl) (no_timer_c n) posts

  -- a branch that is sent its request keeps nothing before
  unsent : (o : Option Branch) → is_none o ≡ true → answer_in o ≡ None
  unsent None e = refl
  unsent (Some branch) e = absurd cc

  done : (call : Call) (now : ℕ) (action : Action) (p : Pumped) (new : Call) → is_due_at call now action ≡ true → Does call now action p new → FirstsStay call new
  done call now (due.SendRequest n) p new is (destination, goes, (out, e)) =
      kept_as call new _ e refl (λ k. same_with call.branches n k _ (unsent (nth_branch call n) (and_parts (row_passes table.is_trying call n) _ is).1))
  done call now (due.SendCancel n) p new is (destination, branch, goes, there, (out, e)) = kept_as call new _ e refl (same_branch call n branch _ there refl)
  done call now (due.SendAck n) p new is (destination, branch, goes, there, (ack, owed, out, e)) = kept_as call new _ e refl (same_branch call n branch _ there refl)
  done call now due.SendAnswer p new is h = paid call now call.server.owed p new h
  done call now due.TickServer p new is (out, e) = kept_as call new _ e refl (λ k. refl)
  done call now (due.TickClient n) p new is (destination, branch, goes, there, h) = ticked call now n destination branch _ p new there h
  done call now (due.TickCancel n) p new is (destination, branch, goes, there, (cancelling, has, out, e)) = kept_as call new _ e refl (same_branch call n branch _ there refl)
  done call now (due.FireTimerC n) p new is (branch, there, h) = fired call now n branch _ p new there h
  done call now (due.GiveUp n) p new is (branch, there, (out, reply, posts)) =
      assumed call _ new _ _ _ reply refl (same_branch call n branch _ there refl) (λ at k stored by came. by) posts

  pumped : (call : Call) (now : ℕ) (p : Pumped) (new : Call) → Pumps call now p new → FirstsStay call new
  pumped call now Idle new (idle, e) = kept_as call new call e refl (λ k. refl)
  pumped call now (Send d) new (action, is, h) = done call now action (Send d) new is h
  pumped call now Did new (action, is, h) = done call now action Did new is h

  -- ---- a response

  -- a transaction that hands up a provisional response or a failure has waited for a final one
  provisional_awaited : (now : ℕ) (c : ClientTransaction) → is_passed (client_out event.Provisional now c).pass ≡ true → awaits c ≡ true
  provisional_awaited now (InviteClient m) e = by m.state e
    where
      by : (s : InviteClientState) → is_passed (row_out (invite_client s (input.Event event.Provisional))).pass ≡ true → invite_awaits s ≡ true
      by invite.Calling e = refl
      by invite.Proceeding e = refl
      by invite.Completed e = absurd cc
      by invite.Accepted e = absurd cc
      by invite.Terminated e = absurd cc
  provisional_awaited now (OtherClient m) e = by m.state e
    where
      by : (s : OtherClientState) → is_passed (row_out (other_client s (input.Event event.Provisional))).pass ≡ true → other_awaits s ≡ true
      by other.Trying e = refl
      by other.Proceeding e = refl
      by other.Completed e = absurd cc
      by other.Terminated e = absurd cc

  failure_awaited : (now : ℕ) (c : ClientTransaction) → is_passed (client_out event.Failure now c).pass ≡ true → awaits c ≡ true
  failure_awaited now (InviteClient m) e = by m.state e
    where
      by : (s : InviteClientState) → is_passed (row_out (invite_client s (input.Event event.Failure))).pass ≡ true → invite_awaits s ≡ true
      by invite.Calling e = refl
      by invite.Proceeding e = refl
      by invite.Completed e = absurd cc
      by invite.Accepted e = absurd cc
      by invite.Terminated e = absurd cc
  failure_awaited now (OtherClient m) e = by m.state e
    where
      by : (s : OtherClientState) → is_passed (row_out (other_client s (input.Event event.Failure))).pass ≡ true → other_awaits s ≡ true
      by other.Trying e = refl
      by other.Proceeding e = refl
      by other.Completed e = absurd cc
      by other.Terminated e = absurd cc

  -- a branch that is open has nothing stored
  open_stores : (t : Table) (n : ℕ) (stored : StoredAnswer) → is_row is_open (slice_get t.rows n) ≡ true → HasStored t n stored → ⊥
  open_stores t n stored is (row, there, has) =
      let O : Option Row → Type 0 = λ o. is_row is_open o ≡ true in
      by row.state (subst O there is) has
    where
      by : (s : State) → is_open s ≡ true → stored_of s ≡ Some stored → ⊥
      by table.Idle e h = absurd cc
      by table.Trying e h = absurd cc
      by (table.Rung cancelled) e h = absurd cc
      by (table.Ended end) e h = absurd cc

  passed_awaited : (now status : ℕ) (c : ClientTransaction) → nat_lt status 300 ≡ false → is_passed (client_out (response_event status) now c).pass ≡ true → awaits c ≡ true
  passed_awaited now status c final passes = by (nat_lt status 200) (subst P (ap (λ (b : Bool). cond {A = TxEvent} (nat_lt status 200) event.Provisional (cond {A = TxEvent} b event.Success event.Failure)) final) passes)
    where
      P : TxEvent → Type 0
      P ev = is_passed (client_out ev now c).pass ≡ true

      by : (b : Bool) → P (cond {A = TxEvent} b event.Provisional event.Failure) → awaits c ≡ true
      by true h = provisional_awaited now c h
      by false h = failure_awaited now c h

  -- ---- a 2xx stores nothing

  no_store : (c b : Bool) (k : Kind) (at : ℕ) → stored_of (cond {A = State} c (closed_state k (table.Ended (table.Accepted at))) (cond {A = State} b table.Trying (table.Ended (table.Accepted at)))) ≡ None
  no_store true b k at = refl
  no_store false true k at = refl
  no_store false false k at = refl

  accepted_at : (u : Table) (rows fresh : List Row) (k at : ℕ) (row r : Row) → slice_get rows k ≡ Some row
      → slice_get (map (settled_row u) (with_state rows k (table.Ended (table.Accepted at)) ++ fresh)) k ≡ Some r → stored_of r.state ≡ None
  accepted_at u [] fresh k at row r there is = absurd cc
  accepted_at u (x ∷ rows) fresh zero at row r there is =
      let same : settled_row u (record x { state = table.Ended (table.Accepted at) }) ≡ r = cc in
      ap (λ (y : Row). stored_of y.state) (sym same) ∙ no_store u.closed (may_start u.rows (record x { state = table.Ended (table.Accepted at) })) u.kind at
  accepted_at u (x ∷ rows) fresh (suc k) at row r there is = accepted_at u rows fresh k at row r there is

  accepted : (t : Table) (n at : ℕ) (answer : FinalAnswer) (stored : StoredAnswer) → nat_lt answer.status 300 ≡ true → HasStored (next t (fork.Answer n answer) at) n stored → HasStored t n stored
  accepted t n at answer stored e has = by (slice_get t.rows n) refl has
    where
      with_it : (row : Row) → slice_get t.rows n ≡ Some row → HasStored (settled (with_effect t n (answers t n row at answer))) n stored → ⊥
      with_it row there h =
          let u = with_effect t n (record { state = table.Ended (table.Accepted at); fresh = []; closes = true }) in
          let H : Effect → Type 0 = λ x. HasStored (settled (with_effect t n x)) n stored in
          let accepts_it : answers t n row at answer ≡ record { state = table.Ended (table.Accepted at); fresh = []; closes = true } = cond-true _ _ _ e in
          let found_it = subst H accepts_it h in
          let none = accepted_at u t.rows [] n at row found_it.0 there found_it.1 in
          absurd (let no : None ≡ Some stored = sym none ∙ found_it.2 in cc)

      by_state : (row : Row) → slice_get t.rows n ≡ Some row → (s : State)
          → HasStored (unwrap_or (option_map settled (option_map (with_effect t n) (effect t row at (fork.Answer n answer) s))) t) n stored → HasStored t n stored
      by_state row there table.Idle h = h
      by_state row there table.Trying h = absurd (with_it row there h)
      by_state row there (table.Rung cancelled) h = absurd (with_it row there h)
      by_state row there (table.Ended end) h = h

      by : (o : Option Row) → slice_get t.rows n ≡ o
          → HasStored (unwrap_or (option_map settled (change_at t at (fork.Answer n answer) n o)) t) n stored → HasStored t n stored
      by None there h = h
      by (Some row) there h = by_state row there row.state h

  -- ---- a response that is posted

  module _ (call new : Call) (n : ℕ) (branch : Branch) (destination : Destination) (now : ℕ) (m : MessageText) (reply : Reply) (first : Bool) (leads : IsTrue first ↔ HasFirst (table_of new.log) n)
      (sound : IsSound call) (there : nth_branch call n ≡ Some branch)
      (passes : is_passed (client_out (response_event (status_of m)) now branch.client).pass ≡ true) (source : Hop) (at : ℕ) (placed : reply.at ≡ at) where
    -- the turn by which it comes
    abbrev this_turn : Turn
    this_turn = record { now = now; input = step.Take (to.Client n) m source; output = step.Took (to.Posted at) }

    abbrev Comes : ℕ → StoredAnswer → Type 0
    Comes k stored = ComesFirst this_turn new k stored

    abbrev posted_part : Branch
    posted_part = branch_posted first destination.longest (branch_after call n branch destination now m) now (status_of m) m

    abbrev posted_mid : Call
    posted_mid = closed_by (closing_after (table_of new.log).closed (status_of m) call.closing) (set_branch call n posted_part)

    -- a branch with something stored keeps what it kept
    same_stored : (k : ℕ) (stored : StoredAnswer) → HasStored (table_of call.log) k stored → answer_in (nth_branch posted_mid k) ≡ answer_in (nth_branch call k)
    same_stored k stored has = by (at_or call.branches n k posted_part)
      where
        here : (b : Bool) → nat_lt (status_of m) 300 ≡ b → k ≡ n → answer_in (nth_branch posted_mid k) ≡ answer_in (nth_branch call k)
        here true e at =
            let part_is : posted_part.answer ≡ branch.answer = cond-true _ _ _ e in
            same_with call.branches n k posted_part (ap answer_in there ∙ sym part_is)
        here false e at =
            let H : ℕ → Type 0 = λ i. HasStored (table_of call.log) i stored in
            absurd (open_stores (table_of call.log) n stored ((sound.branches n branch there).open_yet (passed_awaited now (status_of m) branch.client e passes)) (subst H at has))

        by : (k ≡ n) ⊎ (found (slice_get (with_branch call.branches n posted_part) k) ≡ found (slice_get call.branches k)) → answer_in (nth_branch posted_mid k) ≡ answer_in (nth_branch call k)
        by (inl at) = here (nat_lt (status_of m) 300) refl at
        by (inr e) = ap answer_in e

    kept_here : (ev : Event) → Posts posted_mid ev (contacts_for call.opened.tried (status_of m) m) (to.going_up (status_of m) m) reply new → nat_lt (status_of m) 300 ≡ false
        → ev ≡ event_by call.opened.tried n (status_of m) m
        → (k : ℕ) (stored : StoredAnswer) → k ≡ n → stored.arrival ≡ length call.log.history → HasFirst (table_of new.log) k → Comes k stored
    kept_here ev posts e is k stored k_is at_is led =
        let log : new.log ≡ added call.log call_tag ev reply = ap (λ (x : Call). x.log) posts.follows in
        let F : ℕ → Type 0 = λ i. HasFirst (table_of new.log) i in
        let part_is : posted_part.answer ≡ Some m = cond-false _ _ _ e ∙ cond-true _ _ _ (leads.1 (subst F k_is led)) in
        let branches : answer_in (nth_branch new n) ≡ Some m =
        ap (λ (x : Call). answer_in (nth_branch x n)) posts.follows ∙ ap answer_in (branch_more posted_mid.branches _ n ∙ here_with call.branches n branch posted_part there) ∙ part_is in
        let f : new.opened ≡ call.opened = ap (λ (x : Call). x.opened) posts.follows in
        let last : slice_get (events_of new.log.history) (length call.log.history) ≡ Some (event_by call.opened.tried n (status_of m) m) =
        ap (λ (l : Log). slice_get (events_of l.history) (length call.log.history)) log ∙ last_event call.log.history (record { tag = call_tag; event = ev }) ∙ ap (λ (x : Event). Some x) is in (
          m,
          (source, ap (λ (i : ℕ). step.Take (to.Client i) m source) (sym k_is), ap (λ (i : ℕ). step.Took (to.Posted i)) (sym placed ∙ posts.reply_is.position ∙ sym at_is)),
          ap (λ (i : ℕ). answer_in (nth_branch new i)) k_is ∙ branches,
          ap (λ (i : ℕ). slice_get (events_of new.log.history) i) at_is ∙ last ∙ ap (said_by n m) (sym f) ∙ ap (λ (i : ℕ). said_by i m new.opened) (sym k_is),
        )

    abbrev answer_by : FinalAnswer
    answer_by = record { status = status_of m; offers = map offer_of (contacts_for call.opened.tried (status_of m) m); challenges = challenges_by (status_of m) m }

    keeps_posted : Posts posted_mid (event_by call.opened.tried n (status_of m) m) (contacts_for call.opened.tried (status_of m) m) (to.going_up (status_of m) m) reply new
        → (k : ℕ) (stored : StoredAnswer) → HasStored (table_of new.log) k stored → stored.received ≡ true → HasFirst (table_of new.log) k
        → StaysFirst call new k stored ⊎ Comes k stored
    keeps_posted posts k stored has received leads_now = by (nat_lt (status_of m) 200) refl
      where
        at_answer : (b : Bool) → nat_lt (status_of m) 300 ≡ b → fork.Answer n answer_by ≡ event_by call.opened.tried n (status_of m) m
            → Posts posted_mid (fork.Answer n answer_by) (contacts_for call.opened.tried (status_of m) m) (to.going_up (status_of m) m) reply new
            → StoresAs Comes call (fork.Answer n answer_by) new
        at_answer true e is posts k s h now came led =
            let H : ℕ → Type 0 = λ i. HasStored (next (table_of call.log) (fork.Answer n answer_by) (length call.log.history)) i s in
            let B : ℕ → Type 0 = λ i. HasStored (table_of call.log) i s in
            inl (subst B (sym now.0) (accepted (table_of call.log) n (length call.log.history) answer_by s e (subst H now.0 h)))
        at_answer false e is posts k s h now came led = inr (kept_here (fork.Answer n answer_by) posts e is k s now.0 now.1.arrival led)

        by : (b : Bool) → nat_lt (status_of m) 200 ≡ b → StaysFirst call new k stored ⊎ Comes k stored
        by true e =
            let is : event_by call.opened.tried n (status_of m) m ≡ fork.Ring n (status_of m) = cond-true _ _ _ e in
            let P : Event → Type 0 = λ v. Posts posted_mid v (contacts_for call.opened.tried (status_of m) m) (to.going_up (status_of m) m) reply new in
            posted Comes call posted_mid new (fork.Ring n (status_of m)) _ _ reply refl same_stored (subst P is posts) (λ i s h now came led. absurd now) k stored has received leads_now
        by false e =
            let is : event_by call.opened.tried n (status_of m) m ≡ fork.Answer n answer_by = cond-false _ _ _ e in
            let P : Event → Type 0 = λ v. Posts posted_mid v (contacts_for call.opened.tried (status_of m) m) (to.going_up (status_of m) m) reply new in
            let posts-2 = subst P is posts in
            posted Comes call posted_mid new (fork.Answer n answer_by) _ _ reply refl same_stored posts-2 (at_answer (nat_lt (status_of m) 300) refl (sym is) posts-2) k stored has received leads_now

  -- by this turn
  abbrev pub Goes : ℕ → step.Input → step.Output → Call → Call → Type 0
  Goes now input output call new =
      (n : ℕ) (stored : StoredAnswer) → HasStored (table_of new.log) n stored → stored.received ≡ true → HasFirst (table_of new.log) n
      → StaysFirst call new n stored ⊎ ComesFirst (record { now = now; input = input; output = output }) new n stored

  stay : (now : ℕ) (input : step.Input) (output : step.Output) (call new : Call) → FirstsStay call new → Goes now input output call new
  stay now input output call new stays n stored has came first = inl (stays n stored has came first)

  responded : (call : Call) (n : ℕ) (branch : Branch) (destination : Destination) (now : ℕ) (m : MessageText) (source : Hop) (t : Taken) (new : Call) → IsSound call → nth_branch call n ≡ Some branch
      → Responds call n branch destination now m t new → Goes now (step.Take (to.Client n) m source) (step.Took t) call new
  responded call n branch destination now m source to.Absorbed new sound there (p, e) =
      stay now (step.Take (to.Client n) m source) (step.Took to.Absorbed) call new (kept_as call new _ e refl (same_branch call n branch _ there refl))
  responded call n branch destination now m source (to.Posted at) new sound there (p, reply, placed, first, leads, posts) =
      keeps_posted call new n branch destination now m reply first leads sound there p source at placed posts
  responded call n branch destination now m source to.Full new sound there (p, f, e) =
      stay now (step.Take (to.Client n) m source) (step.Took to.Full) call new (kept_as call new call e refl (λ k. refl))

  -- ---- a message

  cancelled : (call new : Call) (cancel : MessageText) (hop : Hop) (t : Taken) → CancelledBy call cancel hop t new → FirstsStay call new
  cancelled call new cancel hop to.Absorbed (c, e) = kept_as call new _ e refl (λ k. refl)
  cancelled call new cancel hop (to.Posted at) (c, reply, placed, posts) = assumed call _ new _ _ _ reply refl (λ k. refl) (λ at k stored by came. by) posts
  cancelled call new cancel hop to.Full h = absurd h

  took : (call : Call) (now : ℕ) (m : MessageText) (source : Hop) (r : to.MatchedTransaction) (t : Taken) (new : Call) → IsSound call → TakesAs call now m source r t new
      → Goes now (step.Take r m source) (step.Took t) call new
  took call now m source to.Server to.Absorbed new sound e = stay now (step.Take to.Server m source) (step.Took to.Absorbed) call new (kept_as call new _ e refl (λ k. refl))
  took call now m source to.Server (to.Posted at) new sound h = absurd h
  took call now m source to.Server to.Full new sound h = absurd h
  took call now m source to.ServerAck to.Absorbed new sound e = stay now (step.Take to.ServerAck m source) (step.Took to.Absorbed) call new (kept_as call new _ e refl (λ k. refl))
  took call now m source to.ServerAck (to.Posted at) new sound h = absurd h
  took call now m source to.ServerAck to.Full new sound h = absurd h
  took call now m source to.ServerCancel t new sound (cancel, marked, by) = stay now (step.Take to.ServerCancel m source) (step.Took t) call new (cancelled call new cancel _ t by)
  took call now m source (to.Client n) t new sound (branch, destination, there, goes, h) = responded call n branch destination now m source t new sound there h
  took call now m source (to.CancelClient n) to.Absorbed new sound (branch, cancelling, there, is, e) =
      stay now (step.Take (to.CancelClient n) m source) (step.Took to.Absorbed) call new (kept_as call new _ e refl (same_branch call n branch _ there refl))
  took call now m source (to.CancelClient n) (to.Posted at) new sound h = absurd h
  took call now m source (to.CancelClient n) to.Full new sound h = absurd h

  -- ---- a datagram that could not be sent

  faults : (call : Call) (now n : ℕ) (branch : Branch) (b : Bool) (new : Call) → nth_branch call n ≡ Some branch → FaultsBy call now n branch b new → FirstsStay call new
  faults call now n branch true new there (reply, posts) = assumed call _ new _ _ _ reply refl (same_branch call n branch _ there refl) (no_fault n) posts
  faults call now n branch false new there e = kept_as call new _ e refl (same_branch call n branch _ there refl)

  faults_client : (call : Call) (now n : ℕ) (l : Option Branch) (new : Call) → nth_branch call n ≡ l → FaultsClient call now n l new → FirstsStay call new
  faults_client call now n None new there e = kept_as call new call e refl (λ k. refl)
  faults_client call now n (Some branch) new there h = faults call now n branch _ new there h

  faults_cancel : (call : Call) (now n : ℕ) (l : Option Branch) (new : Call) → nth_branch call n ≡ l → new ≡ cancel_faulted call now n l → FirstsStay call new
  faults_cancel call now n None new there e = kept_as call new call e refl (λ k. refl)
  faults_cancel call now n (Some branch) new there e = kept_as call new _ e refl (same_branch call n branch _ there (by branch.cancelling))
    where
      by : (c : Option CancelTransaction) → (faulted_cancel branch now c).answer ≡ branch.answer
      by None = refl
      by (Some cancelling) = refl

  failed : (call : Call) (now : ℕ) (c : Cause) (new : Call) → Fails call now c new → FirstsStay call new
  failed call now (cause.Request n) new h = faults_client call now n (nth_branch call n) new refl h
  failed call now (cause.Ack n) new h = faults_client call now n (nth_branch call n) new refl h
  failed call now (cause.Cancel n) new e = faults_cancel call now n (nth_branch call n) new refl e
  failed call now cause.Answer new e = kept_as call new _ e refl (λ k. refl)
  failed call now cause.CancelOk new e = kept_as call new call e refl (λ k. refl)

  -- ---- a step

  stepped : (now : ℕ) (call : Call) (input : step.Input) (new : Call) (output : step.Output) → IsSound call → step.Step now call input new output
      → Goes now input output call new
  stepped now call (step.Take r m source) new (step.Took t) sound h = took call now m source r t new sound h
  stepped now call (step.Take r m source) new (step.Did p) sound h = absurd h
  stepped now call (step.Take r m source) new step.Told sound h = absurd h
  stepped now call step.Pump new (step.Took t) sound h = absurd h
  stepped now call step.Pump new (step.Did p) sound h = stay now step.Pump (step.Did p) call new (pumped call now p new h)
  stepped now call step.Pump new step.Told sound h = absurd h
  stepped now call (step.Failed c) new (step.Took t) sound h = absurd h
  stepped now call (step.Failed c) new (step.Did p) sound h = absurd h
  stepped now call (step.Failed c) new step.Told sound h = stay now (step.Failed c) step.Told call new (failed call now c new h)

  pub firsts_stay_or_come : FirstsStayOrCome
  firsts_stay_or_come turn call new sound h n stored has came first = stepped turn.now call turn.input new turn.output sound h n stored has came first

  pub steps_keep_answers : StepsKeepAnswers
  steps_keep_answers turn call new sound kept h n stored has came first = by (stepped turn.now call turn.input new turn.output sound h n stored has came first)
    where
      by : StaysFirst call new n stored ⊎ ComesFirst turn new n stored → KeepsEvent new n stored.arrival
      by (inl stays) =
          let old = kept n stored stays.has came stays.first in
          (old.0, stays.kept ∙ old.1, stays.events _ old.2 ∙ ap (said_by n old.0) (sym stays.opened))
      by (inr comes) = (comes.0, comes.2, comes.3)

-- ---- before anything was posted

pub begun_keeps : StoredAnswersCame → BegunKeepsAnswers
begun_keeps came opened rules targets destinations n stored has received first =
    let event = came (kind_of opened) rules targets [] n stored has in
    absurd (let h : None ≡ Some event.0 = event.1 in cc)
