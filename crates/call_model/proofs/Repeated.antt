-- What each step leaves of what a call sends again.
use Rattle.call_model.proofs.Common.{◌≡◌, ◌∙◌, ◌⊎◌, inl, inr, ℕ, zero, suc, ap, refl, sym, subst, true, false, Bool, List, [], ◌∷◌, Option, Some, None, slice_get, Event, Reply, MessageText, spelling, ContactText, Hop, Cause, Datagram, answer_of}
use Rattle.call_model.proofs.Common.{request_to, Call, set_branch, nth_branch, IsBuilt, Action, Fails, FaultsBy, FaultsClient, cancel_faulted, OpenedRequest, Destination, Branch, Posts, Pumped, Send, Did, Does, Pumps, SendsAnswer, AnswersBy, AnswersWith}
use Rattle.call_model.proofs.Common.{TicksClientBy, FiresTimerC, sent_if, Owed, Passed, Final, Again, CancelOk, CancelledBy, Responds, Taken, TakesAs}
use Rattle.call_model.specs.declared.cause.Cause.TheVariants as cause
use Rattle.call_model.specs.Again.{LastAnswerIsKept, RepeatsAreTheSame, is_repeated, last_after}
use Rattle.call_model.specs.Due as due
use Rattle.call_model.specs.Datagrams.{ToBranch}
use Rattle.call_model.specs.Parts.{FiresTimer, PartsGoOn, SendsCancelTo, cancel_kept}
use Rattle.call_model.specs.Pump.{Idle}
use Rattle.call_model.specs.Server.{Trying}
use Rattle.call_model.specs.Step as step
use Rattle.call_model.specs.Step.{Run, Turn}
use Rattle.call_model.specs.Take as to
use Rattle.call_model.proofs.KeptBuilt.{destination_more, here_with}
use Rattle.call_model.proofs.Parts as parts
use Rattle.call_model.proofs.laws.RightDatagrams.{built_by}
use Rattle.call_model.proofs.StepsBuilt.{steps_keep}

-- ---- what stays

-- what the call was opened with, and the destination of each row
pub record Stays (call new : Call) : Type 0 where
  pub opened : new.opened ≡ call.opened
  pub destinations : (n : ℕ) (destination : Destination) → slice_get call.destinations n ≡ Some destination → slice_get new.destinations n ≡ Some destination

pub record Keeps (call new : Call) (output : step.Output) : Type 0 where
  pub stays : Stays call new
  pub last : new.server.last ≡ last_after output call.server.last

-- another call, but for these parts
same_parts : (call new x : Call) → new ≡ x → x.opened ≡ call.opened → x.destinations ≡ call.destinations → Stays call new
same_parts call new x e f w = record {
  opened = ap (λ (c : Call). c.opened) e ∙ f;
  destinations = λ n destination h. ap (λ (c : Call). slice_get c.destinations n) e ∙ ap (λ (ws : List Destination). slice_get ws n) w ∙ h;
}

last_by : (call new x : Call) → new ≡ x → (output : step.Output) → x.server.last ≡ last_after output call.server.last → new.server.last ≡ last_after output call.server.last
last_by call new x e output l = ap (λ (c : Call). c.server.last) e ∙ l

keeps : (call new x : Call) → new ≡ x → (output : step.Output) → x.opened ≡ call.opened → x.destinations ≡ call.destinations → x.server.last ≡ last_after output call.server.last → Keeps call new output
keeps call new x e output f w l = record { stays = same_parts call new x e f w; last = last_by call new x e output l }

posted : (call mid new : Call) (event : Event) (contacts : List ContactText) (response : Option MessageText) (reply : Reply) (output : step.Output)
    → mid.opened ≡ call.opened → mid.destinations ≡ call.destinations → mid.server.last ≡ last_after output call.server.last
    → Posts mid event contacts response reply new → Keeps call new output
posted call mid new event contacts response reply output f w l posts = record {
  stays = record {
    opened = ap (λ (c : Call). c.opened) posts.follows ∙ f;
    destinations = λ n destination h. ap (λ (c : Call). slice_get c.destinations n) posts.follows ∙ destination_more mid.destinations _ n destination (ap (λ (ws : List Destination). slice_get ws n) w ∙ h);
  };
  last = ap (λ (c : Call). c.server.last) posts.follows ∙ l;
}

-- ---- what was sent to the caller last

-- an output that is the same as another
as_out : (p q : Pumped) (last : List ℕ) → p ≡ q → last ≡ last_after (step.Did q) last → last ≡ last_after (step.Did p) last
as_out p q last e h = h ∙ ap (λ (x : Pumped). last_after (step.Did x) last) (sym e)

same_answer : (b : Bool) (hop : Hop) (last : List ℕ) → last ≡ last_after (step.Did (sent_if b (record { to = hop; bytes = last; cause = cause.Answer }))) last
same_answer true hop last = refl
same_answer false hop last = refl

no_answer : (b : Bool) (d : Datagram) (last : List ℕ) → is_repeated d.cause ≡ true → last ≡ last_after (step.Did (sent_if b d)) last
no_answer true d last e = by d.cause e
  where
    by : (c : Cause) → is_repeated c ≡ true → last ≡ Rattle.call_model.specs.Again.last_of c d.bytes last
    by (cause.Request n) e = refl
    by (cause.Cancel n) e = refl
    by (cause.Ack n) e = absurd cc
    by cause.Answer e = absurd cc
    by cause.CancelOk e = absurd cc
no_answer false d last e = refl

-- ---- an action of the pump

answered : (call : Call) (now : ℕ) (rest : List Owed) (m : MessageText) (b : Bool) (p : Pumped) (new : Call) → AnswersBy call now rest m b p new → Keeps call new (step.Did p)
answered call now rest m true p new (out, e) =
    keeps call new _ e (step.Did p) refl refl (ap (λ (x : Pumped). last_after (step.Did x) call.server.last) (sym out))
answered call now rest m false p new (out, e) = keeps call new _ e (step.Did p) refl refl (as_out p Did call.server.last out refl)

answered_with : (call : Call) (now : ℕ) (rest : List Owed) (o : Option MessageText) (p : Pumped) (new : Call) → AnswersWith call now rest o p new → Keeps call new (step.Did p)
answered_with call now rest None p new h = absurd h
answered_with call now rest (Some m) p new h = answered call now rest m _ p new h

paid : (call : Call) (now : ℕ) (owed : List Owed) (p : Pumped) (new : Call) → SendsAnswer call now owed p new → Keeps call new (step.Did p)
paid call now [] p new h = absurd h
paid call now (Again ∷ rest) p new (out, e) = keeps call new _ e (step.Did p) refl refl (as_out p _ call.server.last out refl)
paid call now (CancelOk cancel hop ∷ rest) p new (out, e) = keeps call new _ e (step.Did p) refl refl (as_out p _ call.server.last out refl)
paid call now (Trying ∷ rest) p new h = answered_with call now rest (answer_of call Trying) p new h
paid call now (Passed m ∷ rest) p new h = answered_with call now rest (answer_of call (Passed m)) p new h
paid call now (Final choice ∷ rest) p new h = answered_with call now rest (answer_of call (Final choice)) p new h

ticked : (call : Call) (now n : ℕ) (destination : Destination) (branch : Branch) (b : Bool) (p : Pumped) (new : Call) → TicksClientBy call now n destination branch b p new → Keeps call new (step.Did p)
ticked call now n destination branch true p new (out, reply, posts) = posted call _ new _ _ _ reply (step.Did p) refl refl (as_out p Did call.server.last out refl) posts
ticked call now n destination branch false p new (out, e) =
    keeps call new _ e (step.Did p) refl refl (as_out p _ call.server.last out (no_answer _ (record { to = destination.hop; bytes = branch.sent; cause = cause.Request n }) call.server.last refl))

fired : (call : Call) (now n : ℕ) (branch : Branch) (b : Bool) (p : Pumped) (new : Call) → FiresTimerC call now n branch b p new → Keeps call new (step.Did p)
fired call now n branch true p new (out, reply, posts) = posted call _ new _ _ _ reply (step.Did p) refl refl (as_out p Did call.server.last out refl) posts
fired call now n branch false p new (out, reply, posts) = posted call _ new _ _ _ reply (step.Did p) refl refl (as_out p Did call.server.last out refl) posts

done : (call : Call) (now : ℕ) (action : Action) (p : Pumped) (new : Call) → Does call now action p new → Keeps call new (step.Did p)
done call now (due.SendRequest n) p new (destination, goes, (out, e)) = keeps call new _ e (step.Did p) refl refl (as_out p _ call.server.last out refl)
done call now (due.SendCancel n) p new (destination, branch, goes, there, (out, e)) = keeps call new _ e (step.Did p) refl refl (as_out p _ call.server.last out refl)
done call now (due.SendAck n) p new (destination, branch, goes, there, (ack, owed, out, e)) = keeps call new _ e (step.Did p) refl refl (as_out p _ call.server.last out refl)
done call now due.SendAnswer p new h = paid call now call.server.owed p new h
done call now due.TickServer p new (out, e) = keeps call new _ e (step.Did p) refl refl (as_out p _ call.server.last out (same_answer _ call.opened.caller call.server.last))
done call now (due.TickClient n) p new (destination, branch, goes, there, h) = ticked call now n destination branch _ p new h
done call now (due.TickCancel n) p new (destination, branch, goes, there, (cancelling, is, out, e)) =
    keeps call new _ e (step.Did p) refl refl (as_out p _ call.server.last out (no_answer _ (record { to = destination.hop; bytes = cancelling.sent; cause = cause.Cancel n }) call.server.last refl))
done call now (due.FireTimerC n) p new (branch, there, h) = fired call now n branch _ p new h
done call now (due.GiveUp n) p new (branch, there, (out, reply, posts)) = posted call _ new _ _ _ reply (step.Did p) refl refl (as_out p Did call.server.last out refl) posts

pumped : (call : Call) (now : ℕ) (p : Pumped) (new : Call) → Pumps call now p new → Keeps call new (step.Did p)
pumped call now Idle new (idle, e) = keeps call new call e (step.Did Idle) refl refl refl
pumped call now (Send d) new (action, is, h) = done call now action (Send d) new h
pumped call now Did new (action, is, h) = done call now action Did new h

-- ---- a message

responded : (call : Call) (n : ℕ) (branch : Branch) (destination : Destination) (now : ℕ) (m : MessageText) (t : Taken) (new : Call) → Responds call n branch destination now m t new → Keeps call new (step.Took t)
responded call n branch destination now m to.Absorbed new (p, e) = keeps call new _ e (step.Took to.Absorbed) refl refl refl
responded call n branch destination now m (to.Posted at) new (p, reply, placed, first, leads, posts) = posted call _ new _ _ _ reply (step.Took (to.Posted at)) refl refl refl posts
responded call n branch destination now m to.Full new (p, f, e) = keeps call new call e (step.Took to.Full) refl refl refl

cancelled : (call new : Call) (cancel : MessageText) (hop : Hop) (t : Taken) → CancelledBy call cancel hop t new → Keeps call new (step.Took t)
cancelled call new cancel hop to.Absorbed (c, e) = keeps call new _ e (step.Took to.Absorbed) refl refl refl
cancelled call new cancel hop (to.Posted at) (c, reply, placed, posts) = posted call _ new _ _ _ reply (step.Took (to.Posted at)) refl refl refl posts
cancelled call new cancel hop to.Full h = absurd h

took : (call : Call) (now : ℕ) (m : MessageText) (source : Hop) (r : to.MatchedTransaction) (t : Taken) (new : Call) → TakesAs call now m source r t new → Keeps call new (step.Took t)
took call now m source to.Server to.Absorbed new e = keeps call new _ e (step.Took to.Absorbed) refl refl refl
took call now m source to.Server (to.Posted at) new h = absurd h
took call now m source to.Server to.Full new h = absurd h
took call now m source to.ServerAck to.Absorbed new e = keeps call new _ e (step.Took to.Absorbed) refl refl refl
took call now m source to.ServerAck (to.Posted at) new h = absurd h
took call now m source to.ServerAck to.Full new h = absurd h
took call now m source to.ServerCancel t new (cancel, marked, by) = cancelled call new cancel _ t by
took call now m source (to.Client n) t new (branch, destination, there, goes, h) = responded call n branch destination now m t new h
took call now m source (to.CancelClient n) to.Absorbed new (branch, cancelling, there, is, e) = keeps call new _ e (step.Took to.Absorbed) refl refl refl
took call now m source (to.CancelClient n) (to.Posted at) new h = absurd h
took call now m source (to.CancelClient n) to.Full new h = absurd h

-- ---- a datagram that could not be sent

faults : (call : Call) (now n : ℕ) (branch : Branch) (b : Bool) (new : Call) → FaultsBy call now n branch b new → Keeps call new step.Told
faults call now n branch true new (reply, posts) = posted call _ new _ _ _ reply step.Told refl refl refl posts
faults call now n branch false new e = keeps call new _ e step.Told refl refl refl

faults_client : (call : Call) (now n : ℕ) (l : Option Branch) (new : Call) → FaultsClient call now n l new → Keeps call new step.Told
faults_client call now n None new e = keeps call new call e step.Told refl refl refl
faults_client call now n (Some branch) new h = faults call now n branch _ new h

faults_cancel : (call : Call) (now n : ℕ) (l : Option Branch) (new : Call) → new ≡ cancel_faulted call now n l → Keeps call new step.Told
faults_cancel call now n None new e = keeps call new call e step.Told refl refl refl
faults_cancel call now n (Some branch) new e = keeps call new _ e step.Told refl refl refl

failed : (call : Call) (now : ℕ) (c : Cause) (new : Call) → Fails call now c new → Keeps call new step.Told
failed call now (cause.Request n) new h = faults_client call now n (nth_branch call n) new h
failed call now (cause.Ack n) new h = faults_client call now n (nth_branch call n) new h
failed call now (cause.Cancel n) new e = faults_cancel call now n (nth_branch call n) new e
failed call now cause.Answer new e = keeps call new _ e step.Told refl refl refl
failed call now cause.CancelOk new e = keeps call new call e step.Told refl refl refl

-- ---- a step

stepped : (now : ℕ) (call : Call) (input : step.Input) (new : Call) (output : step.Output) → step.Step now call input new output → Keeps call new output
stepped now call (step.Take r m source) new (step.Took t) h = took call now m source r t new h
stepped now call (step.Take r m source) new (step.Did p) h = absurd h
stepped now call (step.Take r m source) new step.Told h = absurd h
stepped now call step.Pump new (step.Took t) h = absurd h
stepped now call step.Pump new (step.Did p) h = pumped call now p new h
stepped now call step.Pump new step.Told h = absurd h
stepped now call (step.Failed c) new (step.Took t) h = absurd h
stepped now call (step.Failed c) new (step.Did p) h = absurd h
stepped now call (step.Failed c) new step.Told h = failed call now c new h

pub last_is_kept : LastAnswerIsKept
last_is_kept turn call new h = (stepped turn.now call turn.input new turn.output h).last

-- ---- over a run

-- branch n has sent its CANCEL, and keeps it
abbrev HoldsCancel : Call → ℕ → List ℕ → Type 0
HoldsCancel call n bytes = (branch : Branch) × (nth_branch call n ≡ Some branch) × (cancel_kept branch ≡ Some bytes)

-- what was sent once, of the call as it is now: the request is as it is made, and the CANCEL is the one that is kept
abbrev WasSent : Call → Datagram → Cause → Type 0
WasSent call d (cause.Request n) = ToBranch call n d (λ destination. d.bytes ≡ spelling (request_to call.opened destination n))
WasSent call d (cause.Cancel n) = ToBranch call n d (λ destination. HoldsCancel call n d.bytes)
WasSent call d (cause.Ack n) = Unit {0}
WasSent call d cause.Answer = Unit {0}
WasSent call d cause.CancelOk = Unit {0}

still_holds : (call new : Call) (output : step.Output) (n : ℕ) (bytes : List ℕ) (destination : Destination) → slice_get call.destinations n ≡ Some destination → PartsGoOn (FiresTimer call new) output call new → HoldsCancel call n bytes → HoldsCancel new n bytes
still_holds call new output n bytes destination goes on (branch, there, kept) =
    let p = on.kept n destination branch goes there in
    (p.0, p.1, by p.0 p.2.cancel)
  where
    by : (later : Branch) → (cancel_kept later ≡ cancel_kept branch) ⊎ SendsCancelTo output call n destination branch later → cancel_kept later ≡ Some bytes
    by later (inl same) = same ∙ kept
    by later (inr sends) = absurd (let e : None ≡ Some bytes = sym sends.first ∙ kept in cc)

still_sent : (call new : Call) (output : step.Output) (d : Datagram) → Stays call new → PartsGoOn (FiresTimer call new) output call new → (c : Cause) → is_repeated c ≡ true → WasSent call d c → WasSent new d c
still_sent call new output d s on (cause.Request n) e (destination, there, hop, text) =
    (destination, s.destinations n destination there, hop, text ∙ ap (λ (f : OpenedRequest). spelling (request_to f destination n)) (sym s.opened))
still_sent call new output d s on (cause.Cancel n) e (destination, there, hop, holds) =
    (destination, s.destinations n destination there, hop, still_holds call new output n d.bytes destination there on holds)
still_sent call new output d s on (cause.Ack n) e right = absurd cc
still_sent call new output d s on cause.Answer e right = absurd cc
still_sent call new output d s on cause.CancelOk e right = absurd cc

over_run : (turns : List Turn) (call new : Call) (d : Datagram) → is_repeated d.cause ≡ true → WasSent call d d.cause → Run call turns new → WasSent new d d.cause
over_run [] call new d e was same = let P : Call → Type 0 = λ c. WasSent c d d.cause in subst P (sym same) was
over_run (turn ∷ turns) call new d e was (mid, first, rest) =
    let kept = stepped turn.now call turn.input mid turn.output first in
    over_run turns mid new d e (still_sent call mid turn.output d kept.stays (parts.stepped turn.now call turn.input mid turn.output first) d.cause e was) rest

-- ---- the step that sends it

abbrev datagram : Hop → List ℕ → Cause → Datagram
datagram hop bytes why = record { to = hop; bytes = bytes; cause = why }

the_same : (d e : Datagram) → Send d ≡ Send e → d ≡ e
the_same d e h = cc

sent_same : (b : Bool) (d e : Datagram) → Send d ≡ sent_if b e → d ≡ e
sent_same true d e h = the_same d e h
sent_same false d e h = absurd cc

-- what is no request and no CANCEL
other_cause : (new : Call) (d e : Datagram) → d ≡ e → is_repeated e.cause ≡ false → is_repeated d.cause ≡ true → WasSent new d d.cause
other_cause new d e same never repeats =
    absurd (let h : true ≡ false = sym repeats ∙ ap (λ (x : Datagram). is_repeated x.cause) same ∙ never in cc)

answer_sent : (call : Call) (now : ℕ) (d : Datagram) (new : Call) (rest : List Owed) (m : MessageText) (b : Bool) → is_repeated d.cause ≡ true → AnswersBy call now rest m b (Send d) new → WasSent new d d.cause
answer_sent call now d new rest m true e (out, same) = other_cause new d _ (the_same d _ out) refl e
answer_sent call now d new rest m false e (out, same) = absurd (let h = out in cc)

answer_with_sent : (call : Call) (now : ℕ) (d : Datagram) (new : Call) (rest : List Owed) (o : Option MessageText) → is_repeated d.cause ≡ true → AnswersWith call now rest o (Send d) new → WasSent new d d.cause
answer_with_sent call now d new rest None e h = absurd h
answer_with_sent call now d new rest (Some m) e h = answer_sent call now d new rest m _ e h

paid_sent : (call : Call) (now : ℕ) (d : Datagram) (new : Call) (owed : List Owed) → is_repeated d.cause ≡ true → SendsAnswer call now owed (Send d) new → WasSent new d d.cause
paid_sent call now d new [] e h = absurd h
paid_sent call now d new (Again ∷ rest) e (out, same) = other_cause new d _ (the_same d _ out) refl e
paid_sent call now d new (CancelOk cancel to ∷ rest) e (out, same) = other_cause new d _ (the_same d _ out) refl e
paid_sent call now d new (Trying ∷ rest) e h = answer_with_sent call now d new rest (answer_of call Trying) e h
paid_sent call now d new (Passed m ∷ rest) e h = answer_with_sent call now d new rest (answer_of call (Passed m)) e h
paid_sent call now d new (Final choice ∷ rest) e h = answer_with_sent call now d new rest (answer_of call (Final choice)) e h

-- a request, of a call that is well built afterwards
request_sent : (call new : Call) (n : ℕ) (d : Datagram) (destination : Destination) (bytes : List ℕ) → Stays call new → slice_get call.destinations n ≡ Some destination
    → d ≡ datagram destination.hop bytes (cause.Request n) → bytes ≡ spelling (request_to call.opened destination n) → WasSent new d d.cause
request_sent call new n d destination bytes s goes same text =
    let P : Datagram → Type 0 = λ x. WasSent new x x.cause in
    subst P (sym same) (destination, s.destinations n destination goes, refl, text ∙ ap (λ (f : OpenedRequest). spelling (request_to f destination n)) (sym s.opened))

-- a CANCEL, which its branch keeps
cancel_sent : (call new : Call) (n : ℕ) (d : Datagram) (destination : Destination) (bytes : List ℕ) (branch l : Branch) → slice_get call.destinations n ≡ Some destination
    → nth_branch call n ≡ Some branch → cancel_kept l ≡ Some bytes
    → d ≡ datagram destination.hop bytes (cause.Cancel n) → new ≡ set_branch call n l → WasSent new d d.cause
cancel_sent call new n d destination bytes branch l goes there is same e =
    let P : Datagram → Type 0 = λ x. WasSent new x x.cause in
    let Q : Call → Type 0 = λ c. WasSent c (datagram destination.hop bytes (cause.Cancel n)) (cause.Cancel n) in
    subst P (sym same) (subst Q (sym e) (destination, goes, refl, (l, here_with call.branches n branch l there, is)))

ticked_sent : (call : Call) (now n : ℕ) (destination : Destination) (branch : Branch) (b : Bool) (d : Datagram) (new : Call) → IsBuilt call → Stays call new → slice_get call.destinations n ≡ Some destination → nth_branch call n ≡ Some branch
    → TicksClientBy call now n destination branch b (Send d) new → WasSent new d d.cause
ticked_sent call now n destination branch true d new built s goes there (out, reply, h) = absurd (let e = out in cc)
ticked_sent call now n destination branch false d new built s goes there (out, e) =
    request_sent call new n d destination branch.sent s goes (sent_same _ d _ out) (built_by call n destination branch built goes there).request

fired_sent : (call : Call) (now n : ℕ) (branch : Branch) (b : Bool) (d : Datagram) (new : Call) → FiresTimerC call now n branch b (Send d) new → WasSent new d d.cause
fired_sent call now n branch true d new (out, reply, h) = absurd (let e = out in cc)
fired_sent call now n branch false d new (out, reply, h) = absurd (let e = out in cc)

done_sent : (call : Call) (now : ℕ) (action : Action) (d : Datagram) (new : Call) → IsBuilt call → Stays call new → is_repeated d.cause ≡ true → Does call now action (Send d) new → WasSent new d d.cause
done_sent call now (due.SendRequest n) d new built s e (destination, goes, (out, same)) = request_sent call new n d destination _ s goes (the_same d _ out) refl
done_sent call now (due.SendCancel n) d new built s e (destination, branch, goes, there, (out, same)) =
    cancel_sent call new n d destination _ branch _ goes there refl (the_same d _ out) same
done_sent call now (due.SendAck n) d new built s e (destination, branch, goes, there, (ack, owed, out, same)) = other_cause new d _ (the_same d _ out) refl e
done_sent call now due.SendAnswer d new built s e h = paid_sent call now d new call.server.owed e h
done_sent call now due.TickServer d new built s e (out, same) = other_cause new d _ (sent_same _ d _ out) refl e
done_sent call now (due.TickClient n) d new built s e (destination, branch, goes, there, h) = ticked_sent call now n destination branch _ d new built s goes there h
done_sent call now (due.TickCancel n) d new built s e (destination, branch, goes, there, (cancelling, is, out, same)) =
    cancel_sent call new n d destination cancelling.sent branch _ goes there refl (sent_same _ d _ out) same
done_sent call now (due.FireTimerC n) d new built s e (branch, there, h) = fired_sent call now n branch _ d new h
done_sent call now (due.GiveUp n) d new built s e (branch, there, (out, reply, h)) = absurd (let is = out in cc)

-- a turn that sends a datagram is a pump
step_sent : (now : ℕ) (call : Call) (input : step.Input) (new : Call) (d : Datagram) → IsBuilt call → Stays call new → is_repeated d.cause ≡ true → step.Step now call input new (step.Did (Send d)) → WasSent new d d.cause
step_sent now call (step.Take r m source) new d built s e h = absurd h
step_sent now call step.Pump new d built s e (action, is, h) = done_sent call now action d new built s e h
step_sent now call (step.Failed c) new d built s e h = absurd h

run_sent : (turns : List Turn) (call new : Call) (d : Datagram) (place : ℕ) (turn : Turn) → is_repeated d.cause ≡ true → IsBuilt call → Run call turns new
    → slice_get turns place ≡ Some turn → turn.output ≡ step.Did (Send d) → WasSent new d d.cause
run_sent [] call new d place turn e built run there out = absurd cc
run_sent (t ∷ turns) call new d zero turn e built (mid, first, rest) there out =
    let same : t ≡ turn = cc in
    let sends : t.output ≡ step.Did (Send d) = ap (λ (x : Turn). x.output) same ∙ out in
    let P : step.Output → Type 0 = λ o. step.Step t.now call t.input mid o in
    let kept = stepped t.now call t.input mid t.output first in
    over_run turns mid new d e (step_sent t.now call t.input mid d built kept.stays e (subst P sends first)) rest
run_sent (t ∷ turns) call new d (suc place) turn e built (mid, first, rest) there out =
    run_sent turns mid new d place turn e (steps_keep t call mid built first) rest there out

-- ---- two of one cause

same_datagram : (d e : Datagram) → e.to ≡ d.to → e.bytes ≡ d.bytes → e.cause ≡ d.cause → e ≡ d
same_datagram d e hop bytes why =
    ap (λ (x : Hop). datagram x e.bytes e.cause) hop
    ∙ ap (λ (x : List ℕ). datagram d.to x e.cause) bytes
    ∙ ap (λ (x : Cause). datagram d.to d.bytes x) why

some_same : {A : Type 0} (o : Option A) (v w : A) → o ≡ Some v → o ≡ Some w → w ≡ v
some_same o v w a b = let e : Some w ≡ Some v = sym b ∙ a in cc

-- a branch keeps one CANCEL
same_cancel : (call : Call) (n : ℕ) (a b : List ℕ) → HoldsCancel call n a → HoldsCancel call n b → b ≡ a
same_cancel call n a b (v, there, kept) (w, also, kept_too) =
    let part : w ≡ v = some_same (nth_branch call n) v w there also in
    some_same (cancel_kept v) a b kept (ap cancel_kept (sym part) ∙ kept_too)

same_sent : (call : Call) (d e : Datagram) (c : Cause) → is_repeated c ≡ true → e.cause ≡ d.cause → WasSent call d c → WasSent call e c → e ≡ d
same_sent call d e (cause.Request n) r why (v, there, hop, text) (w, also, hop-2, text-2) =
    let one = some_same (slice_get call.destinations n) v w there also in
    same_datagram d e (hop-2 ∙ ap (λ (x : Destination). x.hop) one ∙ sym hop) (text-2 ∙ ap (λ (x : Destination). spelling (request_to call.opened x n)) one ∙ sym text) why
same_sent call d e (cause.Cancel n) r why (v, there, hop, holds) (w, also, hop-2, holds-2) =
    let one = some_same (slice_get call.destinations n) v w there also in
    same_datagram d e (hop-2 ∙ ap (λ (x : Destination). x.hop) one ∙ sym hop) (same_cancel call n d.bytes e.bytes holds holds-2) why
same_sent call d e (cause.Ack n) r why a b = absurd cc
same_sent call d e cause.Answer r why a b = absurd cc
same_sent call d e cause.CancelOk r why a b = absurd cc

pub repeats_same : RepeatsAreTheSame
repeats_same call new turns first again built run (p, t, there, out) (q, u, also, out-2) r why =
    let P : Cause → Type 0 = λ c. WasSent new again c in
    let R : Cause → Type 0 = λ c. is_repeated c ≡ true in
    same_sent new first again first.cause r why
    (run_sent turns call new first p t r built run there out)
    (subst P why (run_sent turns call new again q u (subst R (sym why) r) built run also out-2))
