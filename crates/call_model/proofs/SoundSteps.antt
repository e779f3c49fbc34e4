-- Each step of a call keeps it sound.
use Rattle.call_model.proofs.Common.{◌≡◌, ◌∙◌, ◌⊎◌, ℕ, zero, suc, ap, refl, sym, subst, inl, inr, true, false, Bool, List, [], ◌∷◌, ◌++◌, length, Option, Some, None, slice_get, cond, nat_lt, is_some, IfSome, AllByRecursion, list_all}
use Rattle.call_model.proofs.Common.{and_parts, cond-false, cond-true, Event, RowsStay, Reply, challenges_of, offers_of, next, RowsKeepTheirNumbers, Row, State, Table, is_open, is_row, is_trying, added, table_of, IsMessage, is_value}
use Rattle.call_model.proofs.Common.{values_of, MessageText, TxEvent, ContactText, Hop, is_challenge, Cause, answer_of, status_of, Call, nth_branch, row_passes, set_branch, with_branch, found, ClientTransaction, client_after, client_out, Action, SendRequest}
use Rattle.call_model.proofs.Common.{SendCancel, SendAck, SendAnswer, TickServer, TickClient, TickCancel, FireTimerC, GiveUp, is_due_at, Fails, FaultsBy, FaultsClient, cancel_faulted, faulted, faulted_cancel, is_fault, Destination, kind_of}
use Rattle.call_model.proofs.Common.{CancelTransaction, Branch, branch_start, Posts, call_tag, owed_by, AnswersBy, AnswersWith, Did, Does, FiresTimerC, Pumped, Pumps, Send, SendsAnswer, TicksClientBy, is_timeout, stopped, ticked, contacts_for, event_by}
use Rattle.call_model.proofs.Common.{Again, CancelOk, Final, Owed, Passed, Server, IsForward, IsSound, IsSoundOwed, StoresValues, awaits, is_text, Absorbed, Full, Posted, Responds, Taken, TakesAs, answer_kept, going_up, branch_after}
use Rattle.call_model.proofs.Common.{branch_posted, response_event, timer_c_again}
use Rattle.fork_model.specs.Event as fork
use Rattle.fork_model.specs.Event.{row_named}
use Rattle.fork_model.specs.OpenBranches.{OthersStayOpen}
use Rattle.fork_model.specs.Sources.{StoredAnswersPass}
use Rattle.fork_model.specs.Table as table
use Rattle.sip_build.specs.Requests.{reason_lines}
use Rattle.sip_txn.specs.declared.event.TxEvent.TheVariants as event
use Rattle.call_model.specs.declared.cause.Cause.TheVariants as cause
use Rattle.call_model.specs.Call.{closed_by, owes_request}
use Rattle.call_model.specs.Closing.{ByCancel, Closing, closing_after}
use Rattle.call_model.specs.Branch.{timer_c_from}
use Rattle.call_model.specs.Pump.{Idle, without_timer_c}
use Rattle.call_model.specs.Server.{Trying}
use Rattle.call_model.specs.Sound.{IsGiven, IsGivenTo, IsSoundBranch, StepsKeepSound}
use Rattle.call_model.specs.Step as step
use Rattle.call_model.specs.Take as to
use Rattle.call_model.proofs.KeptBuilt.{at_more}
use Rattle.call_model.proofs.laws.SoundTables.{IsOpenAt, all_more, owed_sound, ring_stays, table_added, timer_c_stays}
use Rattle.call_model.proofs.SoundValues.{event_values}
use Rattle.call_model.proofs.laws.Waiting as waiting

branch_of : (branches : List (Option Branch)) (n m : ℕ) (branch l : Branch) → found (slice_get (with_branch branches n branch) m) ≡ Some l
    → ((m ≡ n) × (l ≡ branch)) ⊎ ((m ≡ n → ⊥) × (found (slice_get branches m) ≡ Some l))
branch_of [] n m branch l e = absurd cc
branch_of (x ∷ branches) zero zero branch l e = inl (refl, let h : Some branch ≡ Some l = e in cc)
branch_of (x ∷ branches) zero (suc m) branch l e = inr ((λ h. absurd cc), e)
branch_of (x ∷ branches) (suc n) zero branch l e = inr ((λ h. absurd cc), e)
branch_of (x ∷ branches) (suc n) (suc m) branch l e = up (branch_of branches n m branch l e)
  where
    up : ((m ≡ n) × (l ≡ branch)) ⊎ ((m ≡ n → ⊥) × (found (slice_get branches m) ≡ Some l)) → ((suc m ≡ suc n) × (l ≡ branch)) ⊎ ((suc m ≡ suc n → ⊥) × (found (slice_get branches m) ≡ Some l))
    up (inl p) = inl (ap suc p.0, p.1)
    up (inr q) = inr ((λ h. q.0 (let k : suc m ≡ suc n = h in cc)), q.1)

-- ---- parts

abbrev IsSoundAll : Table → Call → Type 0
IsSoundAll t call = (n : ℕ) (branch : Branch) → nth_branch call n ≡ Some branch → IsSoundBranch t n branch

-- the part of one branch, and those of the others
set_sound : (t : Table) (call : Call) (n : ℕ) (l : Branch)
    → IsSoundBranch t n l
    → ((m : ℕ) (branch : Branch) → (m ≡ n → ⊥) → nth_branch call m ≡ Some branch → IsSoundBranch t m branch)
    → IsSoundAll t (set_branch call n l)
set_sound t call n l here others m branch e = one (branch_of call.branches n m l branch e)
  where
    one : ((m ≡ n) × (branch ≡ l)) ⊎ ((m ≡ n → ⊥) × (found (slice_get call.branches m) ≡ Some branch)) → IsSoundBranch t m branch
    one (inl p) =
        let P : ℕ → Type 0 = λ k. IsSoundBranch t k branch in
        let Q : Branch → Type 0 = λ x. IsSoundBranch t n x in
        subst P (sym p.0) (subst Q (sym p.1) here)
    one (inr q) = others m branch q.0 q.1

-- a part at a later table, where its branch is open as before
later_sound : (t u : Table) (n : ℕ) (branch : Branch) → IsSoundBranch t n branch → (IsOpenAt t n → IsOpenAt u n) → u.kind ≡ t.kind → IsSoundBranch u n branch
later_sound t u n branch is opens kind = record {
  open_yet = λ e. opens (is.open_yet e);
  timer_c = λ e. ap table.is_invite kind ∙ is.timer_c e;
  answer = is.answer;
}

-- a part that waits only where it did before, with timer C only where it was there, and with such an answer
next_sound : (t : Table) (n : ℕ) (branch l : Branch) → IsSoundBranch t n branch → (awaits l.client ≡ true → awaits branch.client ≡ true) → (is_some l.timer_c_at ≡ true → is_some branch.timer_c_at ≡ true) → IfSome l.answer IsForward
    → IsSoundBranch t n l
next_sound t n branch l is waits timer answer = record {
  open_yet = λ e. is.open_yet (waits e);
  timer_c = λ e. is.timer_c (timer e);
  answer = answer;
}

-- one that waits no more
done_sound : (t : Table) (n : ℕ) (l : Branch) → awaits l.client ≡ false → (is_some l.timer_c_at ≡ true → table.is_invite t.kind ≡ true) → IfSome l.answer IsForward → IsSoundBranch t n l
done_sound t n l done timer answer = record {
  open_yet = λ e. absurd (let h : true ≡ false = sym e ∙ done in cc);
  timer_c = timer;
  answer = answer;
}

-- ---- without an event

same_sound : (new call : Call) → new ≡ call → IsSound call → IsSound new
same_sound new call e is = subst IsSound (sym e) is

server_sound : (call : Call) (s : Server) → IsSound call → AllByRecursion (IsSoundOwed (table_of call.log)) s.owed → IsSound (record call { server = s })
server_sound call s is owed = record { kind = is.kind; stored = is.stored; owed = owed; branches = is.branches }

branch_sound : (call : Call) (n : ℕ) (l : Branch) → IsSound call → IsSoundBranch (table_of call.log) n l → IsSound (set_branch call n l)
branch_sound call n l is here = record {
  kind = is.kind;
  stored = is.stored;
  owed = is.owed;
  branches = set_sound (table_of call.log) call n l here (λ m branch d e. is.branches m branch e);
}

module _ (passes : StoredAnswersPass) (grows : RowsKeepTheirNumbers) (stay : RowsStay) (others : OthersStayOpen)
    (values_are : (m : MessageText) (name : List ℕ) → IsMessage m → list_all is_value (values_of name m.headers) ≡ true) where
  -- ---- an event that is posted

  abbrev pub after_event : Call → Event → Table
  after_event call event = next (table_of call.log) event (length call.log.history)

  -- it comes to the parts of this call, of which the sides besides are those of a sound one
  posts_sound : (old call new : Call) (ev : Event) (contacts : List ContactText) (response : Option MessageText) (reply : Reply)
      → IsSound old
      → call.opened ≡ old.opened
      → call.log ≡ old.log
      → AllByRecursion (IsSoundOwed (table_of call.log)) call.server.owed
      → IsSoundAll (after_event call ev) call
      → list_all is_text (offers_of ev) ≡ true
      → list_all is_challenge (challenges_of ev) ≡ true
      → IfSome response IsForward
      → Posts call ev contacts response reply new
      → IsSound new
  posts_sound old call new ev contacts response reply is fixed_is log_is owed branches texts challenges forward posts =
      let t = table_of call.log in
      let at = length call.log.history in
      let log = added call.log call_tag ev reply in
      let goes : table_of log ≡ next t ev at = table_added call.log call_tag ev reply in
      let kind : t.kind ≡ kind_of call.opened = ap (λ (l : _). (table_of l).kind) log_is ∙ is.kind ∙ ap kind_of (sym fixed_is) in
      let stored : StoresValues t = let S : _ → Type 0 = λ l. StoresValues (table_of l) in subst S (sym log_is) is.stored in
      let K : Table → Type 0 = λ x. x.kind ≡ kind_of call.opened in
      let S : Table → Type 0 = λ x. StoresValues x in
      let O : Table → Type 0 = λ x. AllByRecursion (IsSoundOwed x) (call.server.owed ++ owed_by reply.up response) in
      subst IsSound (sym posts.follows) (record {
        kind = subst K (sym goes) ((grows t ev at).kind ∙ kind);
        stored = subst S (sym goes) (passes is_text is_challenge t ev at texts challenges stored);
        owed = subst O (sym goes) (owed_sound grows stay t ev at call.server.owed reply response owed forward posts.reply_is);
        branches = λ n branch e. let L : Table → Type 0 = λ x. IsSoundBranch x n branch in subst L (sym goes) (branches n branch (at_more call.branches _ n branch e));
      })

  -- the parts after an event that names branch n, of which the transaction waits no more
  ended_all : (call : Call) (n : ℕ) (l : Branch) (ev : Event) → IsSound call → row_named ev ≡ Some n → awaits l.client ≡ false
      → (is_some l.timer_c_at ≡ true → table.is_invite (table_of call.log).kind ≡ true) → IfSome l.answer IsForward
      → IsSoundAll (after_event call ev) (set_branch call n l)
  ended_all call n l ev is named done timer answer =
      let t = table_of call.log in
      let u = after_event call ev in
      let kind : u.kind ≡ t.kind = (grows t ev (length call.log.history)).kind in
      set_sound u call n l (done_sound u n l done (λ e. ap table.is_invite kind ∙ timer e) answer)
      (λ m branch d e. later_sound t u m branch (is.branches m branch e) (others t ev (length call.log.history) m (λ h. d (let k : Some n ≡ Some m = sym named ∙ h in cc))) kind)

  -- and after one by which each open branch stays open
  open_all : (call base : Call) (ev : Event) → IsSoundAll (table_of call.log) base → ((m : ℕ) → IsOpenAt (table_of call.log) m → IsOpenAt (after_event call ev) m)
      → IsSoundAll (after_event call ev) base
  open_all call base ev branches opens m branch e =
      later_sound (table_of call.log) (after_event call ev) m branch (branches m branch e) (opens m) (grows (table_of call.log) ev (length call.log.history)).kind

  -- a branch ends by an event that is no response
  ends_sound : (call new : Call) (n : ℕ) (branch l : Branch) (ev : Event) (reply : Reply) → IsSound call → nth_branch call n ≡ Some branch → row_named ev ≡ Some n
      → offers_of ev ≡ [] → challenges_of ev ≡ [] → awaits l.client ≡ false → l.timer_c_at ≡ branch.timer_c_at → l.answer ≡ branch.answer
      → Posts (set_branch call n l) ev [] None reply new → IsSound new
  ends_sound call new n branch l ev reply is there named offers challenges done timer answer posts =
      let part = is.branches n branch there in
      let A : Option MessageText → Type 0 = λ o. IfSome o IsForward in
      posts_sound call (set_branch call n l) new ev [] None reply is refl refl is.owed
      (ended_all call n l ev is named done (λ e. part.timer_c (ap is_some (sym timer) ∙ e)) (subst A (sym answer) part.answer))
      (ap (list_all is_text) offers) (ap (list_all is_challenge) challenges) tt posts

  -- ---- an action of the pump

  answered : (call : Call) (now : ℕ) (rest : List Owed) (m : MessageText) (b : Bool) (p : Pumped) (new : Call) → IsSound call → AllByRecursion (IsSoundOwed (table_of call.log)) rest → AnswersBy call now rest m b p new → IsSound new
  answered call now rest m true p new is owed out = same_sound new _ out.1 (server_sound call _ is owed)
  answered call now rest m false p new is owed out = same_sound new _ out.1 (server_sound call _ is owed)

  answered_with : (call : Call) (now : ℕ) (rest : List Owed) (o : Option MessageText) (p : Pumped) (new : Call) → IsSound call → AllByRecursion (IsSoundOwed (table_of call.log)) rest → AnswersWith call now rest o p new → IsSound new
  answered_with call now rest None p new is owed out = absurd out
  answered_with call now rest (Some m) p new is owed out = answered call now rest m _ p new is owed out

  paid : (call : Call) (now : ℕ) (owed : List Owed) (p : Pumped) (new : Call) → IsSound call → AllByRecursion (IsSoundOwed (table_of call.log)) owed → SendsAnswer call now owed p new → IsSound new
  paid call now [] p new is owed out = absurd out
  paid call now (Again ∷ rest) p new is owed out = same_sound new _ out.1 (server_sound call _ is owed.1)
  paid call now (CancelOk cancel hop ∷ rest) p new is owed out = same_sound new _ out.1 (server_sound call _ is owed.1)
  paid call now (Trying ∷ rest) p new is owed out = answered_with call now rest (answer_of call Trying) p new is owed.1 out
  paid call now (Passed m ∷ rest) p new is owed out = answered_with call now rest (answer_of call (Passed m)) p new is owed.1 out
  paid call now (Final choice ∷ rest) p new is owed out = answered_with call now rest (answer_of call (Final choice)) p new is owed.1 out

  ticks : (call : Call) (now n : ℕ) (destination : Destination) (branch : Branch) (b : Bool) (p : Pumped) (new : Call) → IsSound call → nth_branch call n ≡ Some branch
      → is_timeout (client_out event.Tick now branch.client).pass ≡ b → TicksClientBy call now n destination branch b p new → IsSound new
  ticks call now n destination branch true p new is there e (did, reply, posts) =
      ends_sound call new n branch (ticked branch now) (fork.Timeout n) reply is there refl refl refl (waiting.timed_out event.Tick now branch.client e).1 refl refl posts
  ticks call now n destination branch false p new is there e out =
      same_sound new _ out.1 (branch_sound call n (ticked branch now) is (next_sound _ n branch (ticked branch now) (is.branches n branch there) (waiting.waited event.Tick now branch.client) (λ h. h) (is.branches n branch there).answer))

  fires : (call : Call) (now n : ℕ) (branch : Branch) (b : Bool) (p : Pumped) (new : Call) → IsSound call → nth_branch call n ≡ Some branch → row_passes is_trying call n ≡ b → FiresTimerC call now n branch b p new → IsSound new
  fires call now n branch true p new is there e (did, reply, posts) =
      ends_sound call new n branch (stopped branch now) (fork.TimerC n) reply is there refl refl refl (waiting.stopped_waits now branch.client) refl refl posts
  fires call now n branch false p new is there e (did, reply, posts) =
      let l = without_timer_c branch in
      let part = is.branches n branch there in
      let here : IsSoundBranch (table_of call.log) n l = next_sound (table_of call.log) n branch l part (λ h. h) (λ h. absurd cc) part.answer in
      posts_sound call (set_branch call n l) new (fork.TimerC n) [] None reply is refl refl is.owed
      (open_all call (set_branch call n l) (fork.TimerC n) (set_sound (table_of call.log) call n l here (λ k x d h. is.branches k x h))
      (λ m. timer_c_stays (table_of call.log) (length call.log.history) n m e)) refl refl tt posts

  trying_open : (o : Option Row) → is_row is_trying o ≡ true → is_row is_open o ≡ true
  trying_open None e = absurd cc
  trying_open (Some row) e = by row.state e
    where
      by : (s : State) → is_trying s ≡ true → is_open s ≡ true
      by table.Idle h = absurd cc
      by table.Trying h = refl
      by (table.Rung cancelled) h = absurd cc
      by (table.Ended end) h = absurd cc

  -- a branch that is sent to is tried, and has timer C in an INVITE
  started : (call : Call) (n now : ℕ) (destination : Destination) (sent : List ℕ) → IsSound call → owes_request call n ≡ true
      → IsSoundBranch (table_of call.log) n (branch_start (kind_of call.opened) now destination sent)
  started call n now destination sent is owes_it = record {
    open_yet = λ e. trying_open (slice_get (table_of call.log).rows n) (and_parts (row_passes is_trying call n) _ owes_it).0;
    timer_c = λ e. ap table.is_invite is.kind ∙ by (kind_of call.opened) e;
    answer = tt;
  }
    where
      by : (k : table.Kind) → is_some (timer_c_from k now destination.longest) ≡ true → table.is_invite k ≡ true
      by table.Invite e = refl
      by table.Other e = absurd cc

  done : (call : Call) (now : ℕ) (action : Action) (p : Pumped) (new : Call) → IsSound call → is_due_at call now action ≡ true → Does call now action p new → IsSound new
  done call now (SendRequest n) p new is due (destination, goes, out) = same_sound new _ out.1 (branch_sound call n _ is (started call n now destination _ is due))
  done call now (SendCancel n) p new is due (destination, branch, goes, there, out) =
      same_sound new _ out.1 (branch_sound call n _ is (next_sound _ n branch _ (is.branches n branch there) (λ h. h) (λ h. h) (is.branches n branch there).answer))
  done call now (SendAck n) p new is due (destination, branch, goes, there, (ack, owed, out, same)) =
      same_sound new _ same (branch_sound call n _ is (next_sound _ n branch _ (is.branches n branch there) (λ h. h) (λ h. h) (is.branches n branch there).answer))
  done call now SendAnswer p new is due out = paid call now call.server.owed p new is is.owed out
  done call now TickServer p new is due out = same_sound new _ out.1 (server_sound call _ is is.owed)
  done call now (TickClient n) p new is due (destination, branch, goes, there, out) = ticks call now n destination branch _ p new is there refl out
  done call now (TickCancel n) p new is due (destination, branch, goes, there, (cancelling, has, out, same)) =
      same_sound new _ same (branch_sound call n _ is (next_sound _ n branch _ (is.branches n branch there) (λ h. h) (λ h. h) (is.branches n branch there).answer))
  done call now (FireTimerC n) p new is due (branch, there, out) = fires call now n branch _ p new is there refl out
  done call now (GiveUp n) p new is due (branch, there, (did, reply, posts)) =
      ends_sound call new n branch (stopped branch now) (fork.GiveUp n) reply is there refl refl refl (waiting.stopped_waits now branch.client) refl refl posts

  pumped : (call : Call) (now : ℕ) (p : Pumped) (new : Call) → IsSound call → Pumps call now p new → IsSound new
  pumped call now Idle new is out = same_sound new _ out.1 is
  pumped call now (Send d) new is (action, due, out) = done call now action (Send d) new is due out
  pumped call now Did new is (action, due, out) = done call now action Did new is due out

  -- ---- a datagram that could not be sent

  faults : (call : Call) (now n : ℕ) (branch : Branch) (b : Bool) (new : Call) → IsSound call → nth_branch call n ≡ Some branch → is_fault (client_out event.TransportError now branch.client).pass ≡ b → FaultsBy call now n branch b new → IsSound new
  faults call now n branch true new is there e (reply, posts) =
      ends_sound call new n branch (faulted branch now) (fork.Fault n) reply is there refl refl refl (waiting.faulted event.TransportError now branch.client e).1 refl refl posts
  faults call now n branch false new is there e same =
      same_sound new _ same (branch_sound call n (faulted branch now) is (next_sound _ n branch (faulted branch now) (is.branches n branch there) (waiting.waited event.TransportError now branch.client) (λ h. h) (is.branches n branch there).answer))

  faults_client : (call : Call) (now n : ℕ) (o : Option Branch) (new : Call) → IsSound call → nth_branch call n ≡ o → FaultsClient call now n o new → IsSound new
  faults_client call now n None new is e same = same_sound new _ same is
  faults_client call now n (Some branch) new is e out = faults call now n branch _ new is e refl out

  faults_cancel : (call : Call) (now n : ℕ) (o : Option Branch) → IsSound call → nth_branch call n ≡ o → IsSound (cancel_faulted call now n o)
  faults_cancel call now n None is e = is
  faults_cancel call now n (Some branch) is e = branch_sound call n (faulted_cancel branch now branch.cancelling) is (by branch.cancelling)
    where
      by : (c : Option CancelTransaction) → IsSoundBranch (table_of call.log) n (faulted_cancel branch now c)
      by None = is.branches n branch e
      by (Some cancelling) = next_sound _ n branch _ (is.branches n branch e) (λ h. h) (λ h. h) (is.branches n branch e).answer

  failed : (call : Call) (now : ℕ) (c : Cause) (new : Call) → IsSound call → Fails call now c new → IsSound new
  failed call now (cause.Request n) new is out = faults_client call now n (nth_branch call n) new is refl out
  failed call now (cause.Ack n) new is out = faults_client call now n (nth_branch call n) new is refl out
  failed call now (cause.Cancel n) new is out = same_sound new _ out (faults_cancel call now n (nth_branch call n) is refl)
  failed call now cause.Answer new is out = same_sound new _ out (server_sound call _ is is.owed)
  failed call now cause.CancelOk new is out = same_sound new _ out is

  -- ---- a response of a branch

  awaits_after : (now status : ℕ) (c : ClientTransaction) → nat_lt status 200 ≡ false → awaits (client_after (response_event status) now c) ≡ false
  awaits_after now status c e =
      let P : TxEvent → Type 0 = λ v. awaits (client_after v now c) ≡ false in
      subst P (sym (ap (λ (b : Bool). cond {A = TxEvent} b event.Provisional (cond {A = TxEvent} (nat_lt status 300) event.Success event.Failure)) e)) (by (nat_lt status 300))
    where
      by : (b : Bool) → awaits (client_after (cond {A = TxEvent} b event.Success event.Failure) now c) ≡ false
      by true = waiting.success_waits now c
      by false = waiting.failure_waits now c

  timer_kept : (now status longest : ℕ) (at : Option ℕ) → is_some (timer_c_again now status longest at) ≡ true → is_some at ≡ true
  timer_kept now status longest None e = e
  timer_kept now status longest (Some at) e = refl

  kept_forward : (b first : Bool) (m : MessageText) (kept : Option MessageText) → IsForward m → IfSome kept IsForward
      → IfSome (cond {A = Option MessageText} b kept (cond first (Some m) kept)) IsForward
  kept_forward true first m kept h k = k
  kept_forward false true m kept h k = h
  kept_forward false false m kept h k = k

  up_forward : (b : Bool) (m : MessageText) → IsForward m → IfSome (cond {A = Option MessageText} b (Some m) None) IsForward
  up_forward true m h = h
  up_forward false m h = tt

  posted : (call : Call) (n : ℕ) (branch : Branch) (destination : Destination) (now : ℕ) (m : MessageText) (reply : Reply) (first : Bool) (closing : Closing) (new : Call) → IsSound call → nth_branch call n ≡ Some branch → IsMessage m → IsForward m
      → Posts (closed_by closing (set_branch call n (branch_posted first destination.longest (branch_after call n branch destination now m) now (status_of m) m)))
      (event_by call.opened.tried n (status_of m) m) (contacts_for call.opened.tried (status_of m) m) (going_up (status_of m) m) reply new
      → IsSound new
  posted call n branch destination now m reply first closing new is there message forward posts =
      let l = branch_posted first destination.longest (branch_after call n branch destination now m) now (status_of m) m in
      let ev = event_by call.opened.tried n (status_of m) m in
      let values = event_values values_are call.opened.tried n (status_of m) m message in
      let part = is.branches n branch there in
      let answer = kept_forward (nat_lt (status_of m) 300) first m branch.answer forward part.answer in
      posts_sound call (closed_by closing (set_branch call n l)) new ev (contacts_for call.opened.tried (status_of m) m) (going_up (status_of m) m) reply is refl refl is.owed
      (by (nat_lt (status_of m) 200) refl answer) values.0 values.1 (up_forward (nat_lt (status_of m) 300) m forward) posts
    where
      by : (b : Bool) → nat_lt (status_of m) 200 ≡ b → IfSome (answer_kept first (status_of m) m branch.answer) IsForward
          → IsSoundAll (after_event call (event_by call.opened.tried n (status_of m) m)) (set_branch call n (branch_posted first destination.longest (branch_after call n branch destination now m) now (status_of m) m))
      by true e answer =
          let l = branch_posted first destination.longest (branch_after call n branch destination now m) now (status_of m) m in
          let t = table_of call.log in
          let ring : event_by call.opened.tried n (status_of m) m ≡ fork.Ring n (status_of m) = cond-true _ _ _ e in
          let here : IsSoundBranch t n l = next_sound t n branch l (is.branches n branch there) (waiting.waited (response_event (status_of m)) now branch.client) (timer_kept now (status_of m) destination.longest branch.timer_c_at) answer in
          let P : Event → Type 0 = λ v. IsSoundAll (after_event call v) (set_branch call n l) in
          subst P (sym ring) (open_all call (set_branch call n l) (fork.Ring n (status_of m)) (set_sound t call n l here (λ k x d h. is.branches k x h))
          (λ k. ring_stays t (length call.log.history) n k (status_of m)))
      by false e answer =
          let l = branch_posted first destination.longest (branch_after call n branch destination now m) now (status_of m) m in
          let named : row_named (event_by call.opened.tried n (status_of m) m) ≡ Some n = ap row_named (cond-false _ _ _ e) in
          ended_all call n l (event_by call.opened.tried n (status_of m) m) is named (awaits_after now (status_of m) branch.client e)
          (λ h. (is.branches n branch there).timer_c (timer_kept now (status_of m) destination.longest branch.timer_c_at h)) answer

  responded : (call : Call) (n : ℕ) (branch : Branch) (destination : Destination) (now : ℕ) (m : MessageText) (k : Taken) (new : Call) → IsSound call → nth_branch call n ≡ Some branch → IsMessage m → IsForward m → Responds call n branch destination now m k new → IsSound new
  responded call n branch destination now m Absorbed new is there message forward out =
      same_sound new _ out.1 (branch_sound call n _ is (next_sound _ n branch _ (is.branches n branch there) (waiting.waited (response_event (status_of m)) now branch.client) (λ h. h) (is.branches n branch there).answer))
  responded call n branch destination now m (Posted at) new is there message forward (passed, reply, at_is, first, leads, posts) =
      posted call n branch destination now m reply first (closing_after (table_of new.log).closed (status_of m) call.closing) new is there message forward posts
  responded call n branch destination now m Full new is there message forward (passed, full, same) = same_sound new _ same is

  -- ---- a message

  again_sound : (t : Table) (b : Bool) → AllByRecursion (IsSoundOwed t) (to.again_if b)
  again_sound t true = (tt, tt)
  again_sound t false = tt

  okay_sound : (call : Call) (cancel : MessageText) (hop : Hop) → IsSound call → IsSound (to.owes_cancel_ok call cancel hop)
  okay_sound call cancel hop is = server_sound call _ is (all_more (IsSoundOwed (table_of call.log)) call.server.owed (CancelOk cancel hop ∷ []) is.owed (tt, tt))

  cancelled : (call : Call) (cancel : MessageText) (hop : Hop) (k : Taken) (new : Call) → IsSound call → to.CancelledBy call cancel hop k new → IsSound new
  cancelled call cancel hop Absorbed new is out = same_sound new _ out.1 (okay_sound call cancel hop is)
  cancelled call cancel hop (Posted at) new is (closes, reply, at_is, posts) =
      let mid = to.owes_cancel_ok call cancel hop in
      let closed = closed_by (ByCancel (reason_lines cancel)) mid in
      let ok = okay_sound call cancel hop is in
      posts_sound mid closed new fork.Cancel [] None reply ok refl refl ok.owed
      (open_all mid closed fork.Cancel ok.branches (λ m. others (table_of mid.log) fork.Cancel (length mid.log.history) m (λ h. absurd cc))) refl refl tt posts
  cancelled call cancel hop Full new is out = absurd out

  took_as : (call : Call) (now : ℕ) (m : MessageText) (source : Hop) (r : to.MatchedTransaction) (k : Taken) (new : Call) → IsSound call → IsGivenTo r m → TakesAs call now m source r k new → IsSound new
  took_as call now m source to.Server Absorbed new is given out =
      same_sound new _ out (server_sound call _ is (all_more (IsSoundOwed (table_of call.log)) call.server.owed _ is.owed (again_sound (table_of call.log) _)))
  took_as call now m source to.Server (Posted at) new is given out = absurd out
  took_as call now m source to.Server Full new is given out = absurd out
  took_as call now m source to.ServerAck Absorbed new is given out = same_sound new _ out (server_sound call _ is is.owed)
  took_as call now m source to.ServerAck (Posted at) new is given out = absurd out
  took_as call now m source to.ServerAck Full new is given out = absurd out
  took_as call now m source to.ServerCancel k new is given (cancel, marked, out) = cancelled call cancel _ k new is out
  took_as call now m source (to.Client n) k new is given (branch, destination, there, goes, out) = responded call n branch destination now m k new is there given.0 given.1 out
  took_as call now m source (to.CancelClient n) Absorbed new is given (branch, cancelling, there, has, same) =
      same_sound new _ same (branch_sound call n _ is (next_sound _ n branch _ (is.branches n branch there) (λ h. h) (λ h. h) (is.branches n branch there).answer))
  took_as call now m source (to.CancelClient n) (Posted at) new is given out = absurd out
  took_as call now m source (to.CancelClient n) Full new is given out = absurd out

  -- ---- a step

  stepped : (now : ℕ) (call : Call) (input : step.Input) (new : Call) (output : step.Output) → IsSound call → IsGiven input → step.Step now call input new output → IsSound new
  stepped now call (step.Take r m source) new (step.Took k) is given out = took_as call now m source r k new is given out
  stepped now call (step.Take r m source) new (step.Did p) is given out = absurd out
  stepped now call (step.Take r m source) new step.Told is given out = absurd out
  stepped now call step.Pump new (step.Took k) is given out = absurd out
  stepped now call step.Pump new (step.Did p) is given out = pumped call now p new is out
  stepped now call step.Pump new step.Told is given out = absurd out
  stepped now call (step.Failed c) new (step.Took k) is given out = absurd out
  stepped now call (step.Failed c) new (step.Did p) is given out = absurd out
  stepped now call (step.Failed c) new step.Told is given out = failed call now c new is out

  pub steps_sound : StepsKeepSound
  steps_sound turn call new is given out = stepped turn.now call turn.input new turn.output is given out
