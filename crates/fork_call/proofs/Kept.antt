-- A call that is carried keeps what it was opened with.
use Rattle.fork_call.proofs.Common.{◌≡◌, ◌∙◌, ◌⊎◌, inl, inr, ℕ, Bool, true, false, List, [], ◌∷◌, Option, Some, None, refl, ap, MessageText, Cause, Destination, Branch, Owed, Call, Datagram, answer_of, Action, SendRequest, SendCancel, SendAck}
use Rattle.fork_call.proofs.Common.{IsIdle, SendAnswer, TickServer, TickClient, TickCancel, FireTimerC, GiveUp, Pumped, Send, Did, Idle, AnswersBy, AnswersWith, SendsAnswer, TicksClientBy, FiresTimerC, Does, Pumps, FaultsBy, FaultsClient}
use Rattle.fork_call.proofs.Common.{cancel_faulted, Fails, Carrying, Sent, Lost, Silent, Carries, CarriesAll, Sends, SendsOne, IsCutOff, IsRunOut}
use Rattle.call_model.specs.declared.cause.Cause.TheVariants as cause
use Rattle.call_model.specs.OpenedRequest.{OpenedRequest}
use Rattle.call_laws.specs.Sending as sending
use Rattle.call_model.specs.Server as server

abbrev opened_of : Call → OpenedRequest
opened_of call = call.opened

answers_by_keep : (call : Call) (now : ℕ) (rest : List Owed) (answer : MessageText) (sends : Bool) (pumped : Pumped) (new : Call)
    → AnswersBy call now rest answer sends pumped new → new.opened ≡ call.opened
answers_by_keep call now rest answer true pumped new (did, is) = ap opened_of is
answers_by_keep call now rest answer false pumped new (did, is) = ap opened_of is

answers_with_keep : (call : Call) (now : ℕ) (rest : List Owed) (answer : Option MessageText) (pumped : Pumped) (new : Call)
    → AnswersWith call now rest answer pumped new → new.opened ≡ call.opened
answers_with_keep call now rest None pumped new none = absurd none
answers_with_keep call now rest (Some answer) pumped new answers = answers_by_keep call now rest answer _ pumped new answers

sends_keep : (call : Call) (now : ℕ) (owed : List Owed) (pumped : Pumped) (new : Call) → SendsAnswer call now owed pumped new → new.opened ≡ call.opened
sends_keep call now [] pumped new none = absurd none
sends_keep call now (server.Again ∷ rest) pumped new (did, is) = ap opened_of is
sends_keep call now (server.CancelOk cancel to ∷ rest) pumped new (did, is) = ap opened_of is
sends_keep call now (server.Trying ∷ rest) pumped new answers = answers_with_keep call now rest (answer_of call server.Trying) pumped new answers
sends_keep call now (server.Passed response ∷ rest) pumped new answers = answers_with_keep call now rest (answer_of call (server.Passed response)) pumped new answers
sends_keep call now (server.Final choice ∷ rest) pumped new answers = answers_with_keep call now rest (answer_of call (server.Final choice)) pumped new answers

ticks_keep : (call : Call) (now n : ℕ) (destination : Destination) (branch : Branch) (timeout : Bool) (pumped : Pumped) (new : Call)
    → TicksClientBy call now n destination branch timeout pumped new → new.opened ≡ call.opened
ticks_keep call now n destination branch true pumped new (did, reply, posts) = ap opened_of posts.follows
ticks_keep call now n destination branch false pumped new (did, is) = ap opened_of is

timer_c_keeps : (call : Call) (now n : ℕ) (branch : Branch) (trying : Bool) (pumped : Pumped) (new : Call)
    → FiresTimerC call now n branch trying pumped new → new.opened ≡ call.opened
timer_c_keeps call now n branch true pumped new (did, reply, posts) = ap opened_of posts.follows
timer_c_keeps call now n branch false pumped new (did, reply, posts) = ap opened_of posts.follows

actions_keep : (call : Call) (now : ℕ) (action : Action) (pumped : Pumped) (new : Call) → Does call now action pumped new → new.opened ≡ call.opened
actions_keep call now (SendRequest n) pumped new (destination, destination_is, (did, is)) = ap opened_of is
actions_keep call now (SendCancel n) pumped new (destination, branch, destination_is, branch_is, (did, is)) = ap opened_of is
actions_keep call now (SendAck n) pumped new (destination, branch, destination_is, branch_is, (ack, ack_is, did, is)) = ap opened_of is
actions_keep call now SendAnswer pumped new sends = sends_keep call now call.server.owed pumped new sends
actions_keep call now TickServer pumped new (did, is) = ap opened_of is
actions_keep call now (TickClient n) pumped new (destination, branch, destination_is, branch_is, ticks) = ticks_keep call now n destination branch _ pumped new ticks
actions_keep call now (TickCancel n) pumped new (destination, branch, destination_is, branch_is, (cancelling, cancelling_is, did, is)) = ap opened_of is
actions_keep call now (FireTimerC n) pumped new (branch, branch_is, fires) = timer_c_keeps call now n branch _ pumped new fires
actions_keep call now (GiveUp n) pumped new (branch, branch_is, (did, reply, posts)) = ap opened_of posts.follows

pumps_keep : (call : Call) (now : ℕ) (pumped : Pumped) (new : Call) → Pumps call now pumped new → new.opened ≡ call.opened
pumps_keep call now Idle new (idle, is) = ap opened_of is
pumps_keep call now (Send datagram) new (action, due, does) = actions_keep call now action (Send datagram) new does
pumps_keep call now Did new (action, due, does) = actions_keep call now action Did new does

faults_by_keep : (call : Call) (now n : ℕ) (branch : Branch) (fault : Bool) (new : Call) → FaultsBy call now n branch fault new → new.opened ≡ call.opened
faults_by_keep call now n branch true new (reply, posts) = ap opened_of posts.follows
faults_by_keep call now n branch false new is = ap opened_of is

faults_keep : (call : Call) (now n : ℕ) (branch : Option Branch) (new : Call) → FaultsClient call now n branch new → new.opened ≡ call.opened
faults_keep call now n None new is = ap opened_of is
faults_keep call now n (Some branch) new faults = faults_by_keep call now n branch _ new faults

cancel_keeps : (call : Call) (now n : ℕ) (branch : Option Branch) → (cancel_faulted call now n branch).opened ≡ call.opened
cancel_keeps call now n None = refl
cancel_keeps call now n (Some branch) = refl

fails_keep : (call : Call) (now : ℕ) (of : Cause) (new : Call) → Fails call now of new → new.opened ≡ call.opened
fails_keep call now (cause.Request n) new faults = faults_keep call now n _ new faults
fails_keep call now (cause.Ack n) new faults = faults_keep call now n _ new faults
fails_keep call now (cause.Cancel n) new is = ap opened_of is ∙ cancel_keeps call now n _
fails_keep call now cause.Answer new is = ap opened_of is
fails_keep call now cause.CancelOk new is = ap opened_of is

step_keeps : (now : ℕ) (call : Call) (step : Carrying) (new : Call) → Carries now call step new → new.opened ≡ call.opened
step_keeps now call (Sent datagram) new (pumps, right) = pumps_keep call now (Send datagram) new pumps
step_keeps now call (Lost datagram) new (mid, pumps, right, fails) = fails_keep mid now datagram.cause new fails ∙ pumps_keep call now (Send datagram) mid pumps
step_keeps now call Silent new pumps = pumps_keep call now Did new pumps

steps_keep : (now : ℕ) (call : Call) (steps : List Carrying) (new : Call) → CarriesAll now call steps new → new.opened ≡ call.opened
steps_keep now call [] new is = ap opened_of is
steps_keep now call (step ∷ steps) new (mid, first, rest) = steps_keep now mid steps new rest ∙ step_keeps now call step mid first

number_keeps : (call new : Call) → new.opened ≡ call.opened → new.opened.number ≡ call.opened.number
number_keeps call new is = ap (λ (opened : OpenedRequest). opened.number) is

module _ {P : Type 0} (sends : Sends P) (count : P → ℕ) (now : ℕ) (call : Call) (port : P) (new : Call) (new_port : P) where
  pub run_out_keeps_number : (sent failed : ℕ) (idle : Bool) → IsRunOut sends count now call port new new_port sent failed idle
      → new.opened.number ≡ call.opened.number
  run_out_keeps_number sent failed idle run = number_keeps call new (steps_keep now call run.steps new run.run)

  last_keeps : (mid : Call) (mid_port : P)
      → ((new ≡ mid) × (new_port ≡ mid_port) × (IsIdle mid now → ⊥)) ⊎ ((d : Datagram) × Pumps mid now (Send d) new × sending.Sends mid (Send d) × SendsOne sends count mid_port d true new_port)
      → new.opened ≡ mid.opened
  last_keeps mid mid_port (inl same) = ap opened_of same.0
  last_keeps mid mid_port (inr lost) = pumps_keep mid now (Send lost.0) new lost.1

  pub cut_off_keeps_number : IsCutOff sends count now call port new new_port → new.opened.number ≡ call.opened.number
  cut_off_keeps_number (steps, mid, mid_port, few, run, handed, last) =
      number_keeps call new (last_keeps mid mid_port last ∙ steps_keep now call steps mid run)
