-- By which events a table is closed, and that a call knows what closed its table.
use Rattle.call_model.proofs.Common.{◌≡◌, ◌∙◌, ◌⊎◌, ◌||◌, ◌&&◌, ℕ, ap, refl, sym, subst, inl, inr, true, false, not, Bool, List, [], ◌∷◌, length, Option, Some, None, slice_get, cond, nat_lt, unwrap_or, option_map, and_parts, cond-false, cond-true}
use Rattle.call_model.proofs.Common.{Event, FinalAnswer, Reply, RowsKeepTheirNumbers, Effect, answers, change_at, effect, next, settled, with_effect, Row, State, Table, is_invite, table_of, MessageText, ContactText, Hop, Cause, answer_of, status_of}
use Rattle.call_model.proofs.Common.{Call, nth_branch, set_branch, Action, Fails, FaultsBy, FaultsClient, cancel_faulted, Destination, Branch, Posts, call_tag, Pumped, Send, Did, Does, Pumps, SendsAnswer, AnswersBy, AnswersWith, TicksClientBy, FiresTimerC}
use Rattle.call_model.proofs.Common.{Owed, Passed, Final, Again, CancelOk, CancelledBy, Responds, Taken, TakesAs, IsSound, challenges_by, contacts_for, event_by, offer_of, map}
use Rattle.std.specs.Prelude.{nat_le, ◌≤◌, Ok}
use Rattle.std.proofs.lemmas.Bool.{leb-true}
use Rattle.fork_model.specs.Event as fork
use Rattle.fork_model.specs.OpenBranches.{fits}
use Rattle.fork_model.specs.Table as table
use Rattle.sip_build.specs.Requests.{reason_lines}
use Rattle.sip_via.specs.Received.{marked}
use Rattle.call_model.specs.declared.cause.Cause.TheVariants as cause
use Rattle.call_model.specs.Call.{closed_by}
use Rattle.call_model.specs.Closing.{Closing, NotClosed, BySuccess, ByGlobalFailure, ByCancel, closing_after, closing_by, has_closed}
use Rattle.call_model.specs.ClosedBy.{BegunKnowsClosing, ClosesTable, ClosingStaysOrComes, IsClosedBy, KnowsClosing, PostsStatus, StepsKnowClosing}
use Rattle.call_model.specs.Due as due
use Rattle.call_model.specs.Pump.{Idle}
use Rattle.call_model.specs.Server.{Trying}
use Rattle.call_model.specs.Step as step
use Rattle.call_model.specs.Step.{Turn}
use Rattle.call_model.specs.Take as to
use Rattle.call_model.proofs.laws.Fitting.{cancel_fits}
use Rattle.call_model.proofs.laws.SoundTables.{table_added}

-- ---- the effect of an event

-- it does not close the table
abbrev is_quiet : Option Effect → Bool
is_quiet None = true
is_quiet (Some e) = not e.closes

or_not : (a b : Bool) → not b ≡ true → (a || b) ≡ a
or_not true b e = refl
or_not false true e = absurd cc
or_not false false e = refl

quiet_stays : (t : Table) (n : ℕ) (o : Option Effect) → is_quiet o ≡ true → (unwrap_or (option_map settled (option_map (with_effect t n) o)) t).closed ≡ t.closed
quiet_stays t n None e = refl
quiet_stays t n (Some x) e = or_not t.closed x.closes e

quiet_if : (b : Bool) (x : Effect) → not x.closes ≡ true → is_quiet (cond b (Some x) None) ≡ true
quiet_if true x e = e
quiet_if false x e = refl

-- at the row that it names
at_row : (t : Table) (at n : ℕ) (ev : Event) (o : Option Row) → ((row : Row) → is_quiet (effect t row at ev row.state) ≡ true)
    → (unwrap_or (option_map settled (change_at t at ev n o)) t).closed ≡ t.closed
at_row t at n ev None quiet = refl
at_row t at n ev (Some row) quiet = quiet_stays t n (effect t row at ev row.state) (quiet row)

ring : (t : Table) (row : Row) (at n status : ℕ) (s : State) → is_quiet (effect t row at (fork.Ring n status) s) ≡ true
ring t row at n status table.Idle = refl
ring t row at n status table.Trying = refl
ring t row at n status (table.Rung cancelled) = refl
ring t row at n status (table.Ended end) = refl

timeout : (t : Table) (row : Row) (at n : ℕ) (s : State) → is_quiet (effect t row at (fork.Timeout n) s) ≡ true
timeout t row at n table.Idle = refl
timeout t row at n table.Trying = refl
timeout t row at n (table.Rung cancelled) = refl
timeout t row at n (table.Ended end) = refl

fault : (t : Table) (row : Row) (at n : ℕ) (s : State) → is_quiet (effect t row at (fork.Fault n) s) ≡ true
fault t row at n table.Idle = refl
fault t row at n table.Trying = refl
fault t row at n (table.Rung cancelled) = refl
fault t row at n (table.Ended end) = refl

timer_c : (t : Table) (row : Row) (at n : ℕ) (s : State) → is_quiet (effect t row at (fork.TimerC n) s) ≡ true
timer_c t row at n table.Idle = refl
timer_c t row at n table.Trying = quiet_if (is_invite t.kind) _ refl
timer_c t row at n (table.Rung cancelled) = quiet_if (is_invite t.kind && not cancelled) _ refl
timer_c t row at n (table.Ended end) = refl

give_up : (t : Table) (row : Row) (at n : ℕ) (s : State) → is_quiet (effect t row at (fork.GiveUp n) s) ≡ true
give_up t row at n table.Idle = refl
give_up t row at n table.Trying = refl
give_up t row at n (table.Rung cancelled) = quiet_if cancelled _ refl
give_up t row at n (table.Ended end) = refl

-- an answer closes the table by its status alone
abbrev closes_by : (status : ℕ) → Bool
closes_by status = cond (nat_lt status 300) true (cond (nat_lt status 400) false (nat_le 600 status))

close_if : (b c : Bool) (x y z : Effect) → (cond b x (cond c y z)).closes ≡ cond b x.closes (cond c y.closes z.closes)
close_if true c x y z = refl
close_if false true x y z = refl
close_if false false x y z = refl

answer_closes : (t : Table) (n : ℕ) (row : Row) (at : ℕ) (answer : FinalAnswer) → (answers t n row at answer).closes ≡ closes_by answer.status
answer_closes t n row at answer = close_if (nat_lt answer.status 300) (nat_lt answer.status 400) _ _ _

-- it is one of these where the table was open and is closed
abbrev Closes : (status : ℕ) → Type 0
Closes status = (nat_lt status 300 ≡ true) ⊎ ((nat_lt status 300 ≡ false) × (600 ≤ status))

closes_so : (status : ℕ) (b c : Bool) → nat_lt status 300 ≡ b → cond b true (cond c false (nat_le 600 status)) ≡ true → Closes status
closes_so status true c e h = inl e
closes_so status false true e h = absurd cc
closes_so status false false e h = inr (e, leb-true 600 status h)

or_other : (a b : Bool) → a ≡ false → (a || b) ≡ true → b ≡ true
or_other true b e h = absurd cc
or_other false b e h = h

answered_closes : (t : Table) (n at : ℕ) (answer : FinalAnswer) → t.closed ≡ false → (next t (fork.Answer n answer) at).closed ≡ true → Closes answer.status
answered_closes t n at answer before behind = by (slice_get t.rows n) behind
  where
    so : (row : Row) → (t.closed || (answers t n row at answer).closes) ≡ true → Closes answer.status
    so row h =
        closes_so answer.status (nat_lt answer.status 300) (nat_lt answer.status 400) refl (sym (answer_closes t n row at answer) ∙ or_other t.closed _ before h)

    open_still : t.closed ≡ true → Closes answer.status
    open_still h = absurd (let e : true ≡ false = sym h ∙ before in cc)

    by_state : (row : Row) (s : State) → (unwrap_or (option_map settled (option_map (with_effect t n) (effect t row at (fork.Answer n answer) s))) t).closed ≡ true → Closes answer.status
    by_state row table.Idle h = open_still h
    by_state row table.Trying h = so row h
    by_state row (table.Rung cancelled) h = so row h
    by_state row (table.Ended end) h = open_still h

    by : (o : Option Row) → (unwrap_or (option_map settled (change_at t at (fork.Answer n answer) n o)) t).closed ≡ true → Closes answer.status
    by None h = open_still h
    by (Some row) h = by_state row row.state h

-- the caller's CANCEL closes it where it fits
cancel_closes : (t : Table) (at : ℕ) → fits t fork.Cancel ≡ true → (next t fork.Cancel at).closed ≡ true
cancel_closes t at e = let P : Bool → Type 0 = λ b. (unwrap_or (option_map settled (cond b (Some (record t { closed = true })) None)) t).closed ≡ true in subst P (sym e) refl

-- ---- a step

-- nothing is closed, and what closed the table stays
pub record StaysClosed (call new : Call) : Type 0 where
  pub closing : new.closing ≡ call.closing
  pub closed : (table_of new.log).closed ≡ (table_of call.log).closed

abbrev Goes : Turn → Call → Call → Type 0
Goes turn call new = StaysClosed call new ⊎ ClosesTable turn call new

stays_as : (call new x : Call) → new ≡ x → x.closing ≡ call.closing → x.log ≡ call.log → StaysClosed call new
stays_as call new x e c l = record { closing = ap (λ (y : Call). y.closing) e ∙ c; closed = ap (λ (y : Call). (table_of y.log).closed) e ∙ ap (λ (y : _). (table_of y).closed) l }

-- the table behind an event
table_behind : (mid new : Call) (ev : Event) (contacts : List ContactText) (response : Option MessageText) (reply : Reply) → Posts mid ev contacts response reply new
    → table_of new.log ≡ next (table_of mid.log) ev (length mid.log.history)
table_behind mid new ev contacts response reply posts = ap (λ (c : Call). table_of c.log) posts.follows ∙ table_added mid.log call_tag ev reply

-- an event that closes nothing
posted : (call mid new : Call) (ev : Event) (contacts : List ContactText) (response : Option MessageText) (reply : Reply) → mid.closing ≡ call.closing → mid.log ≡ call.log
    → (next (table_of mid.log) ev (length mid.log.history)).closed ≡ (table_of mid.log).closed → Posts mid ev contacts response reply new → StaysClosed call new
posted call mid new ev contacts response reply c l quiet posts = record {
  closing = ap (λ (x : Call). x.closing) posts.follows ∙ c;
  closed = ap (λ (t : Table). t.closed) (table_behind mid new ev contacts response reply posts) ∙ quiet ∙ ap (λ (y : _). (table_of y).closed) l;
}

abbrev log_table : Call → Table
log_table call = table_of call.log

timeout_stays : (call mid new : Call) (n : ℕ) (reply : Reply) → mid.closing ≡ call.closing → mid.log ≡ call.log → Posts mid (fork.Timeout n) [] None reply new → StaysClosed call new
timeout_stays call mid new n reply c l it =
    posted call mid new (fork.Timeout n) [] None reply c l
    (at_row (log_table mid) (length mid.log.history) n (fork.Timeout n) (slice_get (log_table mid).rows n) (λ row. timeout (log_table mid) row (length mid.log.history) n row.state)) it

fault_stays : (call mid new : Call) (n : ℕ) (reply : Reply) → mid.closing ≡ call.closing → mid.log ≡ call.log → Posts mid (fork.Fault n) [] None reply new → StaysClosed call new
fault_stays call mid new n reply c l it =
    posted call mid new (fork.Fault n) [] None reply c l
    (at_row (log_table mid) (length mid.log.history) n (fork.Fault n) (slice_get (log_table mid).rows n) (λ row. fault (log_table mid) row (length mid.log.history) n row.state)) it

timer_c_stays : (call mid new : Call) (n : ℕ) (reply : Reply) → mid.closing ≡ call.closing → mid.log ≡ call.log → Posts mid (fork.TimerC n) [] None reply new → StaysClosed call new
timer_c_stays call mid new n reply c l it =
    posted call mid new (fork.TimerC n) [] None reply c l
    (at_row (log_table mid) (length mid.log.history) n (fork.TimerC n) (slice_get (log_table mid).rows n) (λ row. timer_c (log_table mid) row (length mid.log.history) n row.state)) it

give_up_stays : (call mid new : Call) (n : ℕ) (reply : Reply) → mid.closing ≡ call.closing → mid.log ≡ call.log → Posts mid (fork.GiveUp n) [] None reply new → StaysClosed call new
give_up_stays call mid new n reply c l it =
    posted call mid new (fork.GiveUp n) [] None reply c l
    (at_row (log_table mid) (length mid.log.history) n (fork.GiveUp n) (slice_get (log_table mid).rows n) (λ row. give_up (log_table mid) row (length mid.log.history) n row.state)) it

-- ---- an action of the pump

answered : (call : Call) (now : ℕ) (rest : List Owed) (m : MessageText) (b : Bool) (p : Pumped) (new : Call) → AnswersBy call now rest m b p new → StaysClosed call new
answered call now rest m true p new (out, e) = stays_as call new _ e refl refl
answered call now rest m false p new (out, e) = stays_as call new _ e refl refl

answered_with : (call : Call) (now : ℕ) (rest : List Owed) (o : Option MessageText) (p : Pumped) (new : Call) → AnswersWith call now rest o p new → StaysClosed call new
answered_with call now rest None p new h = absurd h
answered_with call now rest (Some m) p new h = answered call now rest m _ p new h

paid : (call : Call) (now : ℕ) (owed : List Owed) (p : Pumped) (new : Call) → SendsAnswer call now owed p new → StaysClosed call new
paid call now [] p new h = absurd h
paid call now (Again ∷ rest) p new (out, e) = stays_as call new _ e refl refl
paid call now (CancelOk cancel hop ∷ rest) p new (out, e) = stays_as call new _ e refl refl
paid call now (Trying ∷ rest) p new h = answered_with call now rest (answer_of call Trying) p new h
paid call now (Passed m ∷ rest) p new h = answered_with call now rest (answer_of call (Passed m)) p new h
paid call now (Final choice ∷ rest) p new h = answered_with call now rest (answer_of call (Final choice)) p new h

ticked : (call : Call) (now n : ℕ) (destination : Destination) (branch : Branch) (b : Bool) (p : Pumped) (new : Call) → TicksClientBy call now n destination branch b p new → StaysClosed call new
ticked call now n destination branch true p new (out, reply, it) = timeout_stays call _ new n reply refl refl it
ticked call now n destination branch false p new (out, e) = stays_as call new _ e refl refl

fired : (call : Call) (now n : ℕ) (branch : Branch) (b : Bool) (p : Pumped) (new : Call) → FiresTimerC call now n branch b p new → StaysClosed call new
fired call now n branch true p new (out, reply, it) = timer_c_stays call _ new n reply refl refl it
fired call now n branch false p new (out, reply, it) = timer_c_stays call _ new n reply refl refl it

done : (call : Call) (now : ℕ) (action : Action) (p : Pumped) (new : Call) → Does call now action p new → StaysClosed call new
done call now (due.SendRequest n) p new (destination, goes, (out, e)) = stays_as call new _ e refl refl
done call now (due.SendCancel n) p new (destination, branch, goes, there, (out, e)) = stays_as call new _ e refl refl
done call now (due.SendAck n) p new (destination, branch, goes, there, (ack, owed, out, e)) = stays_as call new _ e refl refl
done call now due.SendAnswer p new h = paid call now call.server.owed p new h
done call now due.TickServer p new (out, e) = stays_as call new _ e refl refl
done call now (due.TickClient n) p new (destination, branch, goes, there, h) = ticked call now n destination branch _ p new h
done call now (due.TickCancel n) p new (destination, branch, goes, there, (cancelling, has, out, e)) = stays_as call new _ e refl refl
done call now (due.FireTimerC n) p new (branch, there, h) = fired call now n branch _ p new h
done call now (due.GiveUp n) p new (branch, there, (out, reply, it)) = give_up_stays call _ new n reply refl refl it

pumped : (call : Call) (now : ℕ) (p : Pumped) (new : Call) → Pumps call now p new → StaysClosed call new
pumped call now Idle new (idle, e) = stays_as call new call e refl refl
pumped call now (Send d) new (action, is, h) = done call now action (Send d) new h
pumped call now Did new (action, is, h) = done call now action Did new h

-- ---- a datagram that could not be sent

faults : (call : Call) (now n : ℕ) (branch : Branch) (b : Bool) (new : Call) → FaultsBy call now n branch b new → StaysClosed call new
faults call now n branch true new (reply, it) = fault_stays call _ new n reply refl refl it
faults call now n branch false new e = stays_as call new _ e refl refl

faults_client : (call : Call) (now n : ℕ) (l : Option Branch) (new : Call) → FaultsClient call now n l new → StaysClosed call new
faults_client call now n None new e = stays_as call new call e refl refl
faults_client call now n (Some branch) new h = faults call now n branch _ new h

faults_cancel : (call : Call) (now n : ℕ) (l : Option Branch) (new : Call) → new ≡ cancel_faulted call now n l → StaysClosed call new
faults_cancel call now n None new e = stays_as call new call e refl refl
faults_cancel call now n (Some branch) new e = stays_as call new _ e refl refl

failed : (call : Call) (now : ℕ) (c : Cause) (new : Call) → Fails call now c new → StaysClosed call new
failed call now (cause.Request n) new h = faults_client call now n (nth_branch call n) new h
failed call now (cause.Ack n) new h = faults_client call now n (nth_branch call n) new h
failed call now (cause.Cancel n) new e = faults_cancel call now n (nth_branch call n) new e
failed call now cause.Answer new e = stays_as call new _ e refl refl
failed call now cause.CancelOk new e = stays_as call new call e refl refl

-- ---- a message

abbrev turn_by : ℕ → to.MatchedTransaction → MessageText → Hop → Taken → Turn
turn_by now r m source t = record { now = now; input = step.Take r m source; output = step.Took t }

not_closed : (c : Closing) → has_closed c ≡ false → c ≡ NotClosed
not_closed NotClosed e = refl
not_closed BySuccess e = absurd cc
not_closed (ByGlobalFailure status) e = absurd cc
not_closed (ByCancel reasons) e = absurd cc

kept_closing : (status : ℕ) (c : Closing) → has_closed c ≡ true → closing_after true status c ≡ c
kept_closing status NotClosed e = absurd cc
kept_closing status BySuccess e = refl
kept_closing status (ByGlobalFailure code) e = refl
kept_closing status (ByCancel reasons) e = refl

module _ (grows : RowsKeepTheirNumbers) where
  -- what an answer that closes the table says
  by_status : (turn : Turn) (status : ℕ) → PostsStatus turn status → nat_lt status 200 ≡ false → Closes status → IsClosedBy turn (closing_by status)
  by_status turn status posts final (inl e) = subst (IsClosedBy turn) (sym (cond-true _ _ _ e)) (status, posts, final, e)
  by_status turn status posts final (inr e) = subst (IsClosedBy turn) (sym (cond-false _ _ _ e.0)) (posts, e.1)

  responses : (call new : Call) (now n : ℕ) (l : Branch) (m : MessageText) (source : Hop) (at : ℕ) (reply : Reply) (contacts : List ContactText) (response : Option MessageText) → KnowsClosing call
      → Posts (closed_by (closing_after (table_of new.log).closed (status_of m) call.closing) (set_branch call n l)) (event_by call.opened.tried n (status_of m) m) contacts response reply new
      → Goes (turn_by now (to.Client n) m source (to.Posted at)) call new
  responses call new now n l m source at reply contacts response knows it = by (table_of new.log).closed (table_of call.log).closed refl refl
    where
      behind : table_of new.log ≡ next (table_of call.log) (event_by call.opened.tried n (status_of m) m) (length call.log.history)
      behind = table_behind _ new _ contacts response reply it

      closing : (c : Bool) → (table_of new.log).closed ≡ c → new.closing ≡ closing_after c (status_of m) call.closing
      closing c e = ap (λ (x : Call). x.closing) it.follows ∙ ap (λ (b : Bool). closing_after b (status_of m) call.closing) e

      answer_by : FinalAnswer
      answer_by = record { status = status_of m; offers = map offer_of (contacts_for call.opened.tried (status_of m) m); challenges = challenges_by (status_of m) m }

      -- a provisional response closes nothing
      closes : (b : Bool) → nat_lt (status_of m) 200 ≡ b → (table_of call.log).closed ≡ false → (table_of new.log).closed ≡ true → (nat_lt (status_of m) 200 ≡ false) × Closes (status_of m)
      closes true e before after =
          let t = table_of call.log in
          let place = length call.log.history in
          let is : event_by call.opened.tried n (status_of m) m ≡ fork.Ring n (status_of m) = cond-true _ _ _ e in
          let quiet = at_row t place n (fork.Ring n (status_of m)) (slice_get t.rows n) (λ row. ring t row place n (status_of m) row.state) in
          let stays : (table_of new.log).closed ≡ t.closed = ap (λ (x : Table). x.closed) behind ∙ ap (λ (v : Event). (next t v place).closed) is ∙ quiet in
          absurd (let h : true ≡ false = sym after ∙ stays ∙ before in cc)
      closes false e before after =
          let t = table_of call.log in
          let place = length call.log.history in
          let is : event_by call.opened.tried n (status_of m) m ≡ fork.Answer n answer_by = cond-false _ _ _ e in
          let there : (next t (fork.Answer n answer_by) place).closed ≡ true = ap (λ (v : Event). (next t v place).closed) (sym is) ∙ ap (λ (x : Table). x.closed) (sym behind) ∙ after in
          (e, answered_closes t n place answer_by before there)

      by : (c o : Bool) → (table_of new.log).closed ≡ c → (table_of call.log).closed ≡ o → Goes (turn_by now (to.Client n) m source (to.Posted at)) call new
      by false false e f = inl (record { closing = closing false e; closed = e ∙ sym f })
      by false true e f =
          let later = (grows (table_of call.log) (event_by call.opened.tried n (status_of m) m) (length call.log.history)).closed f in
          absurd (let h : true ≡ false = sym later ∙ ap (λ (x : Table). x.closed) (sym behind) ∙ e in cc)
      by true true e f = inl (record { closing = closing true e ∙ kept_closing (status_of m) call.closing (knows ∙ f); closed = e ∙ sym f })
      by true false e f =
          let is = closes (nat_lt (status_of m) 200) refl f e in
          let turn = turn_by now (to.Client n) m source (to.Posted at) in
          let nothing : call.closing ≡ NotClosed = not_closed call.closing (knows ∙ f) in
          let now_is : new.closing ≡ closing_by (status_of m) = closing true e ∙ ap (closing_after true (status_of m)) nothing in
          let posts : PostsStatus turn (status_of m) = (n, at, m, (source, refl, refl), refl) in
          inr (record { open_before = f; closed_after = e; by = subst (IsClosedBy turn) (sym now_is) (by_status turn (status_of m) posts is.0 is.1) })

  responded : (call : Call) (n : ℕ) (branch : Branch) (destination : Destination) (now : ℕ) (m : MessageText) (source : Hop) (t : Taken) (new : Call) → KnowsClosing call
      → Responds call n branch destination now m t new → Goes (turn_by now (to.Client n) m source t) call new
  responded call n branch destination now m source to.Absorbed new knows (p, e) = inl (stays_as call new _ e refl refl)
  responded call n branch destination now m source (to.Posted at) new knows (p, reply, placed, first, leads, it) = responses call new now n _ m source at reply _ _ knows it
  responded call n branch destination now m source to.Full new knows (p, f, e) = inl (stays_as call new call e refl refl)

  cancelled : (call new : Call) (now : ℕ) (m cancel : MessageText) (source hop : Hop) (t : Taken) → IsSound call → marked m source ≡ Ok cancel → CancelledBy call cancel hop t new
      → Goes (turn_by now to.ServerCancel m source t) call new
  cancelled call new now m cancel source hop to.Absorbed sound marked (c, e) = inl (stays_as call new _ e refl refl)
  cancelled call new now m cancel source hop (to.Posted at) sound marked (closes, reply, placed, it) =
      let turn = turn_by now to.ServerCancel m source (to.Posted at) in
      let t = table_of call.log in
      let behind = table_behind _ new fork.Cancel [] None reply it in
      let is : new.closing ≡ ByCancel (reason_lines cancel) = ap (λ (x : Call). x.closing) it.follows in
      inr (record {
        open_before = not_true t.closed (and_parts _ _ closes).1;
        closed_after = ap (λ (x : Table). x.closed) behind ∙ cancel_closes t (length call.log.history) (cancel_fits call sound closes);
        by = subst (IsClosedBy turn) (sym is) (m, source, cancel, at, refl, refl, marked, refl);
      })
    where
      not_true : (b : Bool) → not b ≡ true → b ≡ false
      not_true true e = absurd cc
      not_true false e = refl
  cancelled call new now m cancel source hop to.Full sound marked h = absurd h

  took : (call : Call) (now : ℕ) (m : MessageText) (source : Hop) (r : to.MatchedTransaction) (t : Taken) (new : Call) → IsSound call → KnowsClosing call → TakesAs call now m source r t new → Goes (turn_by now r m source t) call new
  took call now m source to.Server to.Absorbed new sound knows e = inl (stays_as call new _ e refl refl)
  took call now m source to.Server (to.Posted at) new sound knows h = absurd h
  took call now m source to.Server to.Full new sound knows h = absurd h
  took call now m source to.ServerAck to.Absorbed new sound knows e = inl (stays_as call new _ e refl refl)
  took call now m source to.ServerAck (to.Posted at) new sound knows h = absurd h
  took call now m source to.ServerAck to.Full new sound knows h = absurd h
  took call now m source to.ServerCancel t new sound knows (cancel, marked, by) = cancelled call new now m cancel source _ t sound marked by
  took call now m source (to.Client n) t new sound knows (branch, destination, there, goes, h) = responded call n branch destination now m source t new knows h
  took call now m source (to.CancelClient n) to.Absorbed new sound knows (branch, cancelling, there, is, e) = inl (stays_as call new _ e refl refl)
  took call now m source (to.CancelClient n) (to.Posted at) new sound knows h = absurd h
  took call now m source (to.CancelClient n) to.Full new sound knows h = absurd h

  -- ---- the whole

  stepped : (now : ℕ) (call : Call) (input : step.Input) (new : Call) (output : step.Output) → IsSound call → KnowsClosing call → step.Step now call input new output
      → Goes (record { now = now; input = input; output = output }) call new
  stepped now call (step.Take r m source) new (step.Took t) sound knows h = took call now m source r t new sound knows h
  stepped now call (step.Take r m source) new (step.Did p) sound knows h = absurd h
  stepped now call (step.Take r m source) new step.Told sound knows h = absurd h
  stepped now call step.Pump new (step.Took t) sound knows h = absurd h
  stepped now call step.Pump new (step.Did p) sound knows h = inl (pumped call now p new h)
  stepped now call step.Pump new step.Told sound knows h = absurd h
  stepped now call (step.Failed c) new (step.Took t) sound knows h = absurd h
  stepped now call (step.Failed c) new (step.Did p) sound knows h = absurd h
  stepped now call (step.Failed c) new step.Told sound knows h = inl (failed call now c new h)

  has_closed_by : (turn : Turn) (c : Closing) → IsClosedBy turn c → has_closed c ≡ true
  has_closed_by turn NotClosed h = absurd h
  has_closed_by turn BySuccess h = refl
  has_closed_by turn (ByGlobalFailure status) h = refl
  has_closed_by turn (ByCancel reasons) h = refl

  pub steps_know : StepsKnowClosing
  steps_know turn call new sound knows h = by (stepped turn.now call turn.input new turn.output sound knows h)
    where
      by : Goes turn call new → KnowsClosing new
      by (inl stays) = ap has_closed stays.closing ∙ knows ∙ sym stays.closed
      by (inr closes) = has_closed_by turn new.closing closes.by ∙ sym closes.closed_after

  pub stays_or_comes : ClosingStaysOrComes
  stays_or_comes turn call new sound knows h = by (stepped turn.now call turn.input new turn.output sound knows h)
    where
      by : Goes turn call new → (new.closing ≡ call.closing) ⊎ ClosesTable turn call new
      by (inl stays) = inl stays.closing
      by (inr closes) = inr closes

-- ---- before anything was posted

pub begun_knows : BegunKnowsClosing
begun_knows opened rules targets destinations = refl
