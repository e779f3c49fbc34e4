-- What a step does to the log of a call and to its caller's side.
use Rattle.std.proofs.Common.{◌≡◌, ◌∙◌, ◌++◌, ◌∷◌, ℕ, Bool, true, false, List, [], length, Option, Some, None, IfSome, ap, refl, sym, subst, nat_lt}
use Rattle.std.proofs.lemmas.Bool.{cond-false, cond-true}
use Rattle.fork_model.specs.Event.{Event}
use Rattle.fork_model.specs.Reply.{Reply, IsReply}
use Rattle.fork_model.specs.Log.{Log, added, table_of}
use Rattle.sip_text.specs.Text.{MessageText, spelling}
use Rattle.sip_uri.specs.declared.hop.Hop.{Hop}
use Rattle.sip_uri.specs.Contact.{ContactText}
use Rattle.sip_build.specs.declared.responses.OwnStatus.TheVariants.{Okay}
use Rattle.sip_build.specs.Generated.{generated_of}
use Rattle.sip_txn.specs.declared.event.TxEvent.{TxEvent}
use Rattle.sip_txn.specs.declared.event.TxEvent.TheVariants as event
use Rattle.sip_via.specs.Received.{marked, reply_of}
use Rattle.sip_via.specs.TopVia.{top_value}
use Rattle.sip_via.specs.ViaParts.{via_of}
use Rattle.std.specs.Prelude.{Ok}
use Rattle.call_model.specs.declared.cause.Cause.{Cause}
use Rattle.call_model.specs.declared.cause.Cause.TheVariants as cause
use Rattle.call_model.specs.Built.{answer_of, status_of}
use Rattle.call_model.specs.Call.{Call, nth_branch}
use Rattle.call_model.specs.Due.{Action}
use Rattle.call_model.specs.Due as due
use Rattle.call_model.specs.Failed.{Fails, FaultsBy, FaultsClient, cancel_faulted}
use Rattle.call_model.specs.OpenedRequest.{OpenedRequest, Destination}
use Rattle.call_model.specs.Branch.{Branch}
use Rattle.call_model.specs.Posting.{Posts, call_tag, owed_by}
use Rattle.call_model.specs.Pump as pump
use Rattle.call_model.specs.Pump.{Pumped, Pumps, Does, AnswersBy, AnswersWith, SendsAnswer, TicksClientBy, FiresTimerC}
use Rattle.call_model.specs.Response.{event_by}
use Rattle.call_model.specs.Server as server
use Rattle.call_model.specs.Server.{Owed, Server, answer_event, served_after, served_out}
use Rattle.call_model.specs.Step as step
use Rattle.call_model.specs.Step.{Input, Output, Step}
use Rattle.call_model.specs.Take as to
use Rattle.call_model.specs.Take.{CancelledBy, Responds, Taken, TakesAs, again_if, is_response}

-- a response of branch n that may go up came just now, and was posted at this position
abbrev pub GoesUp : OpenedRequest → Input → Output → Event → (at : ℕ) → MessageText → Type 0
GoesUp opened input output ev at m =
    (n : ℕ)
    × (source : Hop)
    × (input ≡ step.Take (to.Client n) m source)
    × (output ≡ step.Took (to.Posted at))
    × (ev ≡ event_by opened.tried n (status_of m) m)
    × (nat_lt (status_of m) 300 ≡ true)

-- a CANCEL that came just now from this hop, as it was marked, and where it is answered
abbrev pub IsMarkedNow : Input → MessageText → Hop → Type 0
IsMarkedNow input cancel hop =
    (m : MessageText)
    × (source : Hop)
    × (input ≡ step.Take to.ServerCancel m source)
    × (marked m source ≡ Ok cancel)
    × (hop ≡ reply_of (via_of (top_value cancel)) source)

abbrev pub sent_to : Call → List ℕ → Output
sent_to call bytes = step.Did (pump.Send (record { to = call.opened.caller; bytes = bytes; cause = cause.Answer }))

abbrev pub okay_to : MessageText → Hop → Output
okay_to cancel hop = step.Did (pump.Send (record { to = hop; bytes = spelling (generated_of cancel Okay []); cause = cause.CancelOk }))

-- what an event leaves of the caller's side
abbrev pub with_owed : Server → List Owed → Server
with_owed s owed = record s { owed = owed }

abbrev pub with_machine : Server → TxEvent → ℕ → Server
with_machine s ev now = record s { machine = served_after ev now s.machine }

pub data Serves (now : ℕ) (call : Call) (input : Input) (output : Output) (new : Call) : Type 0 where
  -- neither changes
  Beside : new.log ≡ call.log → new.server ≡ call.server → Serves now call input output new
  -- an event is posted
  Posted : (ev : Event) (response : Option MessageText) (reply : Reply)
      → IfSome response (GoesUp call.opened input output ev reply.at)
      → IsReply (table_of call.log) ev (length call.log.history) reply
      → new.log ≡ added call.log call_tag ev reply
      → new.server ≡ with_owed call.server (call.server.owed ++ owed_by reply.up response)
      → Serves now call input output new
  -- the 200 to a CANCEL is owed, and the CANCEL may be posted
  Cancelled : (cancel : MessageText) (hop : Hop) → IsMarkedNow input cancel hop
      → new.log ≡ call.log
      → new.server ≡ with_owed call.server (call.server.owed ++ server.CancelOk cancel hop ∷ [])
      → Serves now call input output new
  CancelledBoth : (cancel : MessageText) (hop : Hop) (ev : Event) (reply : Reply) → IsMarkedNow input cancel hop
      → IsReply (table_of call.log) ev (length call.log.history) reply
      → new.log ≡ added call.log call_tag ev reply
      → new.server ≡ with_owed call.server ((call.server.owed ++ server.CancelOk cancel hop ∷ []) ++ owed_by reply.up None)
      → Serves now call input output new
  -- the caller's transaction is told of an ACK, of an answer that could not be sent, of a moment
  Acked : new.log ≡ call.log → new.server ≡ with_machine call.server event.Ack now → Serves now call input output new
  Faulted : input ≡ step.Failed cause.Answer → new.log ≡ call.log → new.server ≡ with_machine call.server event.TransportError now
      → Serves now call input output new
  Ticked : (sends : Bool) → output ≡ step.Did (pump.sent_if sends (record { to = call.opened.caller; bytes = call.server.last; cause = cause.Answer }))
      → sends ≡ is_response (served_out event.Tick now call.server.machine).send
      → new.log ≡ call.log → new.server ≡ with_machine call.server event.Tick now → Serves now call input output new
  -- the request again: the last answer is owed again where the transaction sends it
  Repeated : (sends : Bool) → sends ≡ is_response (served_out event.Request now call.server.machine).send
      → new.log ≡ call.log
      → new.server ≡ record call.server { machine = served_after event.Request now call.server.machine; owed = call.server.owed ++ again_if sends }
      → Serves now call input output new
  -- what was owed first is handed to the caller's transaction, which sends it or drops it
  Sent : (owed : Owed) (rest : List Owed) (m : MessageText) → call.server.owed ≡ owed ∷ rest → answer_of call owed ≡ Some m
      → is_response (served_out (answer_event (status_of m)) now call.server.machine).send ≡ true
      → output ≡ sent_to call (spelling m)
      → new.log ≡ call.log
      → new.server ≡ record { machine = served_after (answer_event (status_of m)) now call.server.machine; owed = rest; last = spelling m }
      → Serves now call input output new
  Dropped : (owed : Owed) (rest : List Owed) (m : MessageText) → call.server.owed ≡ owed ∷ rest → answer_of call owed ≡ Some m
      → is_response (served_out (answer_event (status_of m)) now call.server.machine).send ≡ false
      → output ≡ step.Did pump.Did
      → new.log ≡ call.log
      → new.server ≡ record call.server { machine = served_after (answer_event (status_of m)) now call.server.machine; owed = rest }
      → Serves now call input output new
  -- the last answer again, or the 200 to a CANCEL, goes out as it is
  Again : (rest : List Owed) → call.server.owed ≡ server.Again ∷ rest → output ≡ sent_to call call.server.last
      → new.log ≡ call.log → new.server ≡ with_owed call.server rest → Serves now call input output new
  Okayed : (cancel : MessageText) (hop : Hop) (rest : List Owed) → call.server.owed ≡ server.CancelOk cancel hop ∷ rest
      → output ≡ okay_to cancel hop
      → new.log ≡ call.log → new.server ≡ with_owed call.server rest → Serves now call input output new

abbrev pub log_of : Call → Log
log_of call = call.log

abbrev pub server_of : Call → Server
server_of call = call.server

-- ---- an event is posted

-- by a call with the same log and the same caller's side
posted : (now : ℕ) (call mid new : Call) (input : Input) (output : Output) (ev : Event) (contacts : List ContactText) (response : Option MessageText) (reply : Reply)
    → mid.log ≡ call.log → mid.server ≡ call.server → IfSome response (GoesUp call.opened input output ev reply.at)
    → Posts mid ev contacts response reply new → Serves now call input output new
posted now call mid new input output ev contacts response reply l s goes posts =
    let R : Log → Type 0 = λ x. IsReply (table_of x) ev (length x.history) reply in
    Posted ev response reply goes (subst R l posts.reply_is)
    (ap log_of posts.follows ∙ ap (λ (x : Log). added x call_tag ev reply) l)
    (ap server_of posts.follows ∙ ap (λ (x : Server). with_owed x (x.owed ++ owed_by reply.up response)) s)

-- ---- an action of the pump

answered : (now : ℕ) (call new : Call) (input : Input) (p : Pumped) (owed : Owed) (rest : List Owed) (m : MessageText) (b : Bool)
    → is_response (served_out (answer_event (status_of m)) now call.server.machine).send ≡ b
    → call.server.owed ≡ owed ∷ rest → answer_of call owed ≡ Some m → AnswersBy call now rest m b p new → Serves now call input (step.Did p) new
answered now call new input p owed rest m true sends is made (out, e) = Sent owed rest m is made sends (ap step.Did out) (ap log_of e) (ap server_of e)
answered now call new input p owed rest m false sends is made (out, e) = Dropped owed rest m is made sends (ap step.Did out) (ap log_of e) (ap server_of e)

answered_with : (now : ℕ) (call new : Call) (input : Input) (p : Pumped) (owed : Owed) (rest : List Owed) (o : Option MessageText)
    → call.server.owed ≡ owed ∷ rest → answer_of call owed ≡ o → AnswersWith call now rest o p new → Serves now call input (step.Did p) new
answered_with now call new input p owed rest None is made h = absurd h
answered_with now call new input p owed rest (Some m) is made h = answered now call new input p owed rest m _ refl is made h

paid : (now : ℕ) (call new : Call) (input : Input) (p : Pumped) (owed : List Owed) → call.server.owed ≡ owed → SendsAnswer call now owed p new
    → Serves now call input (step.Did p) new
paid now call new input p [] is h = absurd h
paid now call new input p (server.Again ∷ rest) is (out, e) = Again rest is (ap step.Did out) (ap log_of e) (ap server_of e)
paid now call new input p (server.CancelOk cancel hop ∷ rest) is (out, e) = Okayed cancel hop rest is (ap step.Did out) (ap log_of e) (ap server_of e)
paid now call new input p (server.Trying ∷ rest) is h = answered_with now call new input p server.Trying rest (answer_of call server.Trying) is refl h
paid now call new input p (server.Passed m ∷ rest) is h = answered_with now call new input p (server.Passed m) rest (answer_of call (server.Passed m)) is refl h
paid now call new input p (server.Final choice ∷ rest) is h = answered_with now call new input p (server.Final choice) rest (answer_of call (server.Final choice)) is refl h

ticked : (now : ℕ) (call new : Call) (input : Input) (p : Pumped) (n : ℕ) (destination : Destination) (branch : Branch) (b : Bool) → TicksClientBy call now n destination branch b p new
    → Serves now call input (step.Did p) new
ticked now call new input p n destination branch true (out, reply, posts) = posted now call _ new input (step.Did p) _ [] None reply refl refl tt posts
ticked now call new input p n destination branch false (out, e) = Beside (ap log_of e) (ap server_of e)

fired : (now : ℕ) (call new : Call) (input : Input) (p : Pumped) (n : ℕ) (branch : Branch) (b : Bool) → FiresTimerC call now n branch b p new
    → Serves now call input (step.Did p) new
fired now call new input p n branch true (out, reply, posts) = posted now call _ new input (step.Did p) _ [] None reply refl refl tt posts
fired now call new input p n branch false (out, reply, posts) = posted now call _ new input (step.Did p) _ [] None reply refl refl tt posts

done : (now : ℕ) (call new : Call) (input : Input) (action : Action) (p : Pumped) → Does call now action p new → Serves now call input (step.Did p) new
done now call new input (due.SendRequest n) p (destination, goes, (out, e)) = Beside (ap log_of e) (ap server_of e)
done now call new input (due.SendCancel n) p (destination, branch, goes, there, (out, e)) = Beside (ap log_of e) (ap server_of e)
done now call new input (due.SendAck n) p (destination, branch, goes, there, (ack, owes, out, e)) = Beside (ap log_of e) (ap server_of e)
done now call new input due.SendAnswer p h = paid now call new input p call.server.owed refl h
done now call new input due.TickServer p (out, e) = Ticked _ (ap step.Did out) refl (ap log_of e) (ap server_of e)
done now call new input (due.TickClient n) p (destination, branch, goes, there, h) = ticked now call new input p n destination branch _ h
done now call new input (due.TickCancel n) p (destination, branch, goes, there, (cancelling, has, out, e)) = Beside (ap log_of e) (ap server_of e)
done now call new input (due.FireTimerC n) p (branch, there, h) = fired now call new input p n branch _ h
done now call new input (due.GiveUp n) p (branch, there, (out, reply, posts)) = posted now call _ new input (step.Did p) _ [] None reply refl refl tt posts

pumped : (now : ℕ) (call new : Call) (input : Input) (p : Pumped) → Pumps call now p new → Serves now call input (step.Did p) new
pumped now call new input pump.Idle (idle, e) = Beside (ap log_of e) (ap server_of e)
pumped now call new input (pump.Send d) (action, is, h) = done now call new input action (pump.Send d) h
pumped now call new input pump.Did (action, is, h) = done now call new input action pump.Did h

-- ---- a message

responded : (now : ℕ) (call new : Call) (n : ℕ) (branch : Branch) (destination : Destination) (m : MessageText) (source : Hop) (t : Taken) → Responds call n branch destination now m t new
    → Serves now call (step.Take (to.Client n) m source) (step.Took t) new
responded now call new n branch destination m source to.Absorbed (p, e) = Beside (ap log_of e) (ap server_of e)
responded now call new n branch destination m source (to.Posted at) (p, reply, placed, first, leads, posts) =
    posted now call _ new _ _ _ _ _ reply refl refl (goes (nat_lt (status_of m) 300) refl) posts
  where
    goes : (b : Bool) → nat_lt (status_of m) 300 ≡ b
        → IfSome (to.going_up (status_of m) m) (GoesUp call.opened (step.Take (to.Client n) m source) (step.Took (to.Posted at)) (event_by call.opened.tried n (status_of m) m) reply.at)
    goes true e =
        let P : Option MessageText → Type 0 =
        λ o. IfSome o (GoesUp call.opened (step.Take (to.Client n) m source) (step.Took (to.Posted at)) (event_by call.opened.tried n (status_of m) m) reply.at) in
        subst P (sym (cond-true _ _ _ e)) (n, source, refl, ap (λ (k : ℕ). step.Took (to.Posted k)) (sym placed), refl, e)
    goes false e =
        let P : Option MessageText → Type 0 =
        λ o. IfSome o (GoesUp call.opened (step.Take (to.Client n) m source) (step.Took (to.Posted at)) (event_by call.opened.tried n (status_of m) m) reply.at) in
        subst P (sym (cond-false _ _ _ e)) tt
responded now call new n branch destination m source to.Full (p, f, e) = Beside (ap log_of e) (ap server_of e)

cancelled : (now : ℕ) (call new : Call) (input : Input) (output : Output) (cancel : MessageText) (hop : Hop) (t : Taken) → IsMarkedNow input cancel hop
    → CancelledBy call cancel hop t new → Serves now call input output new
cancelled now call new input output cancel hop to.Absorbed is (c, e) = Cancelled cancel hop is (ap log_of e) (ap server_of e)
cancelled now call new input output cancel hop (to.Posted at) is (c, reply, placed, posts) =
    CancelledBoth cancel hop _ reply is posts.reply_is (ap log_of posts.follows) (ap server_of posts.follows)
cancelled now call new input output cancel hop to.Full is h = absurd h

took : (now : ℕ) (call new : Call) (m : MessageText) (source : Hop) (r : to.MatchedTransaction) (t : Taken) → TakesAs call now m source r t new
    → Serves now call (step.Take r m source) (step.Took t) new
took now call new m source to.Server to.Absorbed e = Repeated _ refl (ap log_of e) (ap server_of e)
took now call new m source to.Server (to.Posted at) h = absurd h
took now call new m source to.Server to.Full h = absurd h
took now call new m source to.ServerAck to.Absorbed e = Acked (ap log_of e) (ap server_of e)
took now call new m source to.ServerAck (to.Posted at) h = absurd h
took now call new m source to.ServerAck to.Full h = absurd h
took now call new m source to.ServerCancel t (cancel, is, by) = cancelled now call new _ _ cancel _ t (m, source, refl, is, refl) by
took now call new m source (to.Client n) t (branch, destination, there, goes, h) = responded now call new n branch destination m source t h
took now call new m source (to.CancelClient n) to.Absorbed (branch, cancelling, there, is, e) = Beside (ap log_of e) (ap server_of e)
took now call new m source (to.CancelClient n) (to.Posted at) h = absurd h
took now call new m source (to.CancelClient n) to.Full h = absurd h

-- ---- a datagram that could not be sent

faults : (now : ℕ) (call new : Call) (input : Input) (n : ℕ) (branch : Branch) (b : Bool) → FaultsBy call now n branch b new → Serves now call input step.Told new
faults now call new input n branch true (reply, posts) = posted now call _ new input step.Told _ [] None reply refl refl tt posts
faults now call new input n branch false e = Beside (ap log_of e) (ap server_of e)

faults_client : (now : ℕ) (call new : Call) (input : Input) (n : ℕ) (l : Option Branch) → FaultsClient call now n l new → Serves now call input step.Told new
faults_client now call new input n None e = Beside (ap log_of e) (ap server_of e)
faults_client now call new input n (Some branch) h = faults now call new input n branch _ h

faults_cancel : (now : ℕ) (call new : Call) (input : Input) (n : ℕ) (l : Option Branch) → new ≡ cancel_faulted call now n l → Serves now call input step.Told new
faults_cancel now call new input n None e = Beside (ap log_of e) (ap server_of e)
faults_cancel now call new input n (Some branch) e = Beside (ap log_of e) (ap server_of e)

failed : (now : ℕ) (call new : Call) (c : Cause) → Fails call now c new → Serves now call (step.Failed c) step.Told new
failed now call new (cause.Request n) h = faults_client now call new _ n (nth_branch call n) h
failed now call new (cause.Ack n) h = faults_client now call new _ n (nth_branch call n) h
failed now call new (cause.Cancel n) e = faults_cancel now call new _ n (nth_branch call n) e
failed now call new cause.Answer e = Faulted refl (ap log_of e) (ap server_of e)
failed now call new cause.CancelOk e = Beside (ap log_of e) (ap server_of e)

-- ---- a step

pub serves : (now : ℕ) (call : Call) (input : Input) (new : Call) (output : Output) → Step now call input new output → Serves now call input output new
serves now call (step.Take r m source) new (step.Took t) h = took now call new m source r t h
serves now call (step.Take r m source) new (step.Did p) h = absurd h
serves now call (step.Take r m source) new step.Told h = absurd h
serves now call step.Pump new (step.Took t) h = absurd h
serves now call step.Pump new (step.Did p) h = pumped now call new _ p h
serves now call step.Pump new step.Told h = absurd h
serves now call (step.Failed c) new (step.Took t) h = absurd h
serves now call (step.Failed c) new (step.Did p) h = absurd h
serves now call (step.Failed c) new step.Told h = failed now call new c h
