-- Timer C that fires ends its branch, or leaves it without timer C.
use Rattle.call_model.proofs.Common.{◌≡◌, ◌∙◌, ◌⊎◌, ◌++◌, ℕ, zero, suc, ap, refl, sym, subst, inl, inr, true, false, Bool, List, [], ◌∷◌, map, length, Option, Some, None, slice_get, cond, nat_lt, and_parts, unwrap_or, option_map}
use Rattle.call_model.proofs.Common.{Event, Reply, change_at, closed_state, effect, next, settled, settled_row, with_effect, with_state, Row, State, Table, is_invite, is_row, is_trying, Log, added, table_of, MessageText, ContactText, Hop, Cause, answer_of, status_of}
use Rattle.call_model.proofs.Common.{Call, nth_branch, row_passes, set_branch, Action, is_due_at, Fails, FaultsBy, FaultsClient, cancel_faulted, Destination, Branch, Posts, call_tag, Pumped, Send, Did, Does, Pumps, SendsAnswer, AnswersBy, AnswersWith, TicksClientBy}
use Rattle.call_model.proofs.Common.{FiresTimerC, Owed, Passed, Final, Again, CancelOk, CancelledBy, Responds, Taken, TakesAs, IsSound, FireTimerC}
use Rattle.fork_model.specs.Event as fork
use Rattle.fork_model.specs.Log.{Posted}
use Rattle.fork_model.specs.Step.{assumed}
use Rattle.fork_model.specs.Table as table
use Rattle.fork_model.specs.Table.{End, is_ended}
use Rattle.call_model.specs.declared.cause.Cause.TheVariants as cause
use Rattle.call_model.specs.Due as due
use Rattle.call_model.specs.Parts.{FiringsEndOrCancel}
use Rattle.call_model.specs.Pump.{Idle, without_timer_c}
use Rattle.call_model.specs.Server.{Trying}
use Rattle.call_model.specs.Step as step
use Rattle.call_model.specs.Take as to
use Rattle.call_model.proofs.KeptBuilt.{branch_more, here_with}
use Rattle.call_model.proofs.laws.Fitting.{fired_fits}
use Rattle.call_model.proofs.laws.SoundTables.{table_added}

-- ---- a row that timer C ends

ended_at : (u : Table) (rows : List Row) (n : ℕ) (row : Row) (end : End) → slice_get rows n ≡ Some row → is_row is_ended (slice_get (map (settled_row u) (with_state rows n (table.Ended end) ++ [])) n) ≡ true
ended_at u [] n row end e = absurd cc
ended_at u (x ∷ rows) zero row end e = by u.closed
  where
    by : (b : Bool) → is_ended (cond {A = State} b (closed_state u.kind (table.Ended end)) (table.Ended end)) ≡ true
    by true = refl
    by false = refl
ended_at u (x ∷ rows) (suc n) row end e = ended_at u rows n row end e

trying_ends : (t : Table) (at n : ℕ) → is_row is_trying (slice_get t.rows n) ≡ true → is_invite t.kind ≡ true → is_row is_ended (slice_get (next t (fork.TimerC n) at).rows n) ≡ true
trying_ends t at n trying invite = by (slice_get t.rows n) refl trying
  where
    ends : (row : Row) → slice_get t.rows n ≡ Some row → (s : State) → is_trying s ≡ true
        → is_row is_ended (slice_get (unwrap_or (option_map settled (option_map (with_effect t n) (effect t row at (fork.TimerC n) s))) t).rows n) ≡ true
    ends row there table.Idle e = absurd cc
    ends row there table.Trying e =
        let P : Bool → Type 0 = λ b. is_row is_ended (slice_get (unwrap_or (option_map settled (option_map (with_effect t n) (cond b (Some (assumed 408 at)) None))) t).rows n) ≡ true in
        subst P (sym invite) (ended_at (with_effect t n (assumed 408 at)) t.rows n row _ there)
    ends row there (table.Rung cancelled) e = absurd cc
    ends row there (table.Ended end) e = absurd cc

    by : (o : Option Row) → slice_get t.rows n ≡ o → is_row is_trying o ≡ true
        → is_row is_ended (slice_get (unwrap_or (option_map settled (change_at t at (fork.TimerC n) n o)) t).rows n) ≡ true
    by None there e = absurd cc
    by (Some row) there e = ends row there row.state e

-- ---- what a step adds to the log

abbrev EndsOrCancels : Call → ℕ → Type 0
EndsOrCancels new n = (row_passes is_ended new n ≡ true) ⊎ ((branch : Branch) × (nth_branch new n ≡ Some branch) × (branch.timer_c_at ≡ None))

abbrev Logs : Call → Call → Type 0
Logs call new =
    (new.log ≡ call.log)
    ⊎ ((ev : Event) × (reply : Reply) × (new.log ≡ added call.log call_tag ev reply) × ((n : ℕ) → ev ≡ fork.TimerC n → EndsOrCancels new n))

same_log : (call new x : Call) → new ≡ x → x.log ≡ call.log → Logs call new
same_log call new x e l = inl (ap (λ (c : Call). c.log) e ∙ l)

posted : (call mid new : Call) (ev : Event) (contacts : List ContactText) (response : Option MessageText) (reply : Reply) → mid.log ≡ call.log → Posts mid ev contacts response reply new
    → ((n : ℕ) → ev ≡ fork.TimerC n → EndsOrCancels new n) → Logs call new
posted call mid new ev contacts response reply l it ends =
    inr (ev, reply, ap (λ (c : Call). c.log) it.follows ∙ ap (λ (x : Log). added x call_tag ev reply) l, ends)

-- ---- an action of the pump

answered : (call : Call) (now : ℕ) (rest : List Owed) (m : MessageText) (b : Bool) (p : Pumped) (new : Call) → AnswersBy call now rest m b p new → Logs call new
answered call now rest m true p new (out, e) = same_log call new _ e refl
answered call now rest m false p new (out, e) = same_log call new _ e refl

answered_with : (call : Call) (now : ℕ) (rest : List Owed) (o : Option MessageText) (p : Pumped) (new : Call) → AnswersWith call now rest o p new → Logs call new
answered_with call now rest None p new h = absurd h
answered_with call now rest (Some m) p new h = answered call now rest m _ p new h

paid : (call : Call) (now : ℕ) (owed : List Owed) (p : Pumped) (new : Call) → SendsAnswer call now owed p new → Logs call new
paid call now [] p new h = absurd h
paid call now (Again ∷ rest) p new (out, e) = same_log call new _ e refl
paid call now (CancelOk cancel hop ∷ rest) p new (out, e) = same_log call new _ e refl
paid call now (Trying ∷ rest) p new h = answered_with call now rest (answer_of call Trying) p new h
paid call now (Passed m ∷ rest) p new h = answered_with call now rest (answer_of call (Passed m)) p new h
paid call now (Final choice ∷ rest) p new h = answered_with call now rest (answer_of call (Final choice)) p new h

ticked : (call : Call) (now n : ℕ) (destination : Destination) (branch : Branch) (b : Bool) (p : Pumped) (new : Call) → TicksClientBy call now n destination branch b p new → Logs call new
ticked call now n destination branch true p new (out, reply, it) = posted call _ new _ _ _ reply refl it (λ k h. absurd cc)
ticked call now n destination branch false p new (out, e) = same_log call new _ e refl

same_number : (n k : ℕ) → fork.TimerC n ≡ fork.TimerC k → k ≡ n
same_number n k e = cc

fired : (call : Call) (now n : ℕ) (branch : Branch) (b : Bool) (p : Pumped) (new : Call) → IsSound call → nth_branch call n ≡ Some branch → is_due_at call now (FireTimerC n) ≡ true
    → row_passes is_trying call n ≡ b → FiresTimerC call now n branch b p new → Logs call new
fired call now n branch true p new sound there is trying (out, reply, it) =
    posted call _ new _ _ _ reply refl it (λ k h. let E : ℕ → Type 0 = λ i. EndsOrCancels new i in subst E (sym (same_number n k h)) (inl ends))
  where
    invite : is_invite (table_of call.log).kind ≡ true
    invite = (and_parts (is_invite (table_of call.log).kind) _ (fired_fits call n now is sound)).0

    ends : row_passes is_ended new n ≡ true
    ends =
        ap (λ (c : Call). is_row is_ended (slice_get (table_of c.log).rows n)) it.follows
        ∙ ap (λ (t : Table). is_row is_ended (slice_get t.rows n)) (table_added call.log call_tag (fork.TimerC n) reply)
        ∙ trying_ends (table_of call.log) (length call.log.history) n trying invite
fired call now n branch false p new sound there is trying (out, reply, it) =
    posted call (set_branch call n (without_timer_c branch)) new _ _ _ reply refl it
    (λ k h. let E : ℕ → Type 0 = λ i. EndsOrCancels new i in subst E (sym (same_number n k h)) (inr (without_timer_c branch, part, refl)))
  where
    part : nth_branch new n ≡ Some (without_timer_c branch)
    part =
        ap (λ (c : Call). nth_branch c n) it.follows
        ∙ branch_more (set_branch call n (without_timer_c branch)).branches _ n
        ∙ here_with call.branches n branch (without_timer_c branch) there

done : (call : Call) (now : ℕ) (action : Action) (p : Pumped) (new : Call) → IsSound call → is_due_at call now action ≡ true → Does call now action p new → Logs call new
done call now (due.SendRequest n) p new sound is (destination, goes, (out, e)) = same_log call new _ e refl
done call now (due.SendCancel n) p new sound is (destination, branch, goes, there, (out, e)) = same_log call new _ e refl
done call now (due.SendAck n) p new sound is (destination, branch, goes, there, (ack, owed, out, e)) = same_log call new _ e refl
done call now due.SendAnswer p new sound is h = paid call now call.server.owed p new h
done call now due.TickServer p new sound is (out, e) = same_log call new _ e refl
done call now (due.TickClient n) p new sound is (destination, branch, goes, there, h) = ticked call now n destination branch _ p new h
done call now (due.TickCancel n) p new sound is (destination, branch, goes, there, (cancelling, has, out, e)) = same_log call new _ e refl
done call now (due.FireTimerC n) p new sound is (branch, there, h) = fired call now n branch _ p new sound there is refl h
done call now (due.GiveUp n) p new sound is (branch, there, (out, reply, it)) = posted call _ new _ _ _ reply refl it (λ k h. absurd cc)

pumped : (call : Call) (now : ℕ) (p : Pumped) (new : Call) → IsSound call → Pumps call now p new → Logs call new
pumped call now Idle new sound (idle, e) = same_log call new call e refl
pumped call now (Send d) new sound (action, is, h) = done call now action (Send d) new sound is h
pumped call now Did new sound (action, is, h) = done call now action Did new sound is h

-- ---- a message

no_timer : (b : Bool) (n status : ℕ) (answer : _) (k : ℕ) → cond {A = Event} b (fork.Ring n status) (fork.Answer n answer) ≡ fork.TimerC k → ⊥
no_timer true n status answer k e = absurd cc
no_timer false n status answer k e = absurd cc

responded : (call : Call) (n : ℕ) (branch : Branch) (destination : Destination) (now : ℕ) (m : MessageText) (t : Taken) (new : Call) → Responds call n branch destination now m t new → Logs call new
responded call n branch destination now m to.Absorbed new (p, e) = same_log call new _ e refl
responded call n branch destination now m (to.Posted at) new (p, reply, placed, first, leads, it) =
    posted call _ new _ _ _ reply refl it (λ k h. absurd (no_timer (nat_lt (status_of m) 200) n (status_of m) _ k h))
responded call n branch destination now m to.Full new (p, f, e) = same_log call new call e refl

cancelled : (call new : Call) (cancel : MessageText) (hop : Hop) (t : Taken) → CancelledBy call cancel hop t new → Logs call new
cancelled call new cancel hop to.Absorbed (c, e) = same_log call new _ e refl
cancelled call new cancel hop (to.Posted at) (c, reply, placed, it) = posted call _ new _ _ _ reply refl it (λ k h. absurd cc)
cancelled call new cancel hop to.Full h = absurd h

took : (call : Call) (now : ℕ) (m : MessageText) (source : Hop) (r : to.MatchedTransaction) (t : Taken) (new : Call) → TakesAs call now m source r t new → Logs call new
took call now m source to.Server to.Absorbed new e = same_log call new _ e refl
took call now m source to.Server (to.Posted at) new h = absurd h
took call now m source to.Server to.Full new h = absurd h
took call now m source to.ServerAck to.Absorbed new e = same_log call new _ e refl
took call now m source to.ServerAck (to.Posted at) new h = absurd h
took call now m source to.ServerAck to.Full new h = absurd h
took call now m source to.ServerCancel t new (cancel, marked, by) = cancelled call new cancel _ t by
took call now m source (to.Client n) t new (branch, destination, there, goes, h) = responded call n branch destination now m t new h
took call now m source (to.CancelClient n) to.Absorbed new (branch, cancelling, there, is, e) = same_log call new _ e refl
took call now m source (to.CancelClient n) (to.Posted at) new h = absurd h
took call now m source (to.CancelClient n) to.Full new h = absurd h

-- ---- a datagram that could not be sent

faults : (call : Call) (now n : ℕ) (branch : Branch) (b : Bool) (new : Call) → FaultsBy call now n branch b new → Logs call new
faults call now n branch true new (reply, it) = posted call _ new _ _ _ reply refl it (λ k h. absurd cc)
faults call now n branch false new e = same_log call new _ e refl

faults_client : (call : Call) (now n : ℕ) (l : Option Branch) (new : Call) → FaultsClient call now n l new → Logs call new
faults_client call now n None new e = same_log call new call e refl
faults_client call now n (Some branch) new h = faults call now n branch _ new h

faults_cancel : (call : Call) (now n : ℕ) (l : Option Branch) (new : Call) → new ≡ cancel_faulted call now n l → Logs call new
faults_cancel call now n None new e = same_log call new call e refl
faults_cancel call now n (Some branch) new e = same_log call new _ e refl

failed : (call : Call) (now : ℕ) (c : Cause) (new : Call) → Fails call now c new → Logs call new
failed call now (cause.Request n) new h = faults_client call now n (nth_branch call n) new h
failed call now (cause.Ack n) new h = faults_client call now n (nth_branch call n) new h
failed call now (cause.Cancel n) new e = faults_cancel call now n (nth_branch call n) new e
failed call now cause.Answer new e = same_log call new _ e refl
failed call now cause.CancelOk new e = same_log call new call e refl

-- ---- the whole

stepped : (now : ℕ) (call : Call) (input : step.Input) (new : Call) (output : step.Output) → IsSound call → step.Step now call input new output → Logs call new
stepped now call (step.Take r m source) new (step.Took t) sound h = took call now m source r t new h
stepped now call (step.Take r m source) new (step.Did p) sound h = absurd h
stepped now call (step.Take r m source) new step.Told sound h = absurd h
stepped now call step.Pump new (step.Took t) sound h = absurd h
stepped now call step.Pump new (step.Did p) sound h = pumped call now p new sound h
stepped now call step.Pump new step.Told sound h = absurd h
stepped now call (step.Failed c) new (step.Took t) sound h = absurd h
stepped now call (step.Failed c) new (step.Did p) sound h = absurd h
stepped now call (step.Failed c) new step.Told sound h = failed call now c new h

nothing_there : (history : List Posted) → slice_get history (length history) ≡ None
nothing_there [] = refl
nothing_there (p ∷ history) = nothing_there history

last_there : (history : List Posted) (p : Posted) → slice_get (history ++ p ∷ []) (length history) ≡ Some p
last_there [] p = refl
last_there (q ∷ history) p = last_there history p

pub firings : FiringsEndOrCancel
firings turn call new n sound h (reply, log) = by (stepped turn.now call turn.input new turn.output sound h)
  where
    last : Posted
    last = record { tag = call_tag; event = fork.TimerC n }

    there : slice_get new.log.history (length call.log.history) ≡ Some last
    there = ap (λ (l : Log). slice_get l.history (length call.log.history)) log ∙ last_there call.log.history last

    by : Logs call new → EndsOrCancels new n
    by (inl same) =
        absurd (let e : None ≡ Some last = sym (nothing_there call.log.history) ∙ sym (ap (λ (l : Log). slice_get l.history (length call.log.history)) same) ∙ there in cc)
    by (inr (ev, r, also, ends)) =
        let e : Some (record { tag = call_tag; event = ev }) ≡ Some last =
        sym (last_there call.log.history (record { tag = call_tag; event = ev })) ∙ sym (ap (λ (l : Log). slice_get l.history (length call.log.history)) also) ∙ there in
        let same : ev ≡ fork.TimerC n = let p : record { tag = call_tag; event = ev } ≡ last = cc in ap (λ (x : Posted). x.event) p in
        ends n same
