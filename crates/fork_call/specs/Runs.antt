-- Any list of calls on a call, as programs make them, is a run of its relation, turn by turn: each turn has the moment of the
-- call and what was said and answered, and its step posts at most one event, which then stands last in the book with its reply
-- (RFC 3261 section 16.7).
use Rattle.std.specs.Prelude.{◌≡◌, ◌⊎◌, ℕ, List, [], ◌∷◌, ◌++◌, length, map, Option, Some, None}
use Rattle.std.specs.List.{AllByRecursion}
use Rattle.fork_model.specs.Event.{Event}
use Rattle.fork_model.specs.Reply.{Reply, IsReply}
use Rattle.sip_text.specs.Message.{IsMessage}
use Rattle.sip_text.specs.Text.{MessageText}
use Rattle.sip_uri.specs.declared.hop.Hop.{Hop}
use Rattle.fork_model.specs.Log.{Log, added, table_of}
use Rattle.call_model.specs.declared.cause.Cause.{Cause}
use Rattle.call_model.specs.Built.{Datagram}
use Rattle.call_model.specs.Call.{Call}
use Rattle.call_model.specs.Failed.{Fails}
use Rattle.call_model.specs.Posting.{call_tag}
use Rattle.call_model.specs.Pump.{Pumped, Pumps, Send}
use Rattle.call_model.specs.Pump as pump
use Rattle.call_model.specs.Step.{Input, Output, Turn}
use Rattle.call_model.specs.Step as step
use Rattle.call_model.specs.Take as taking
use Rattle.call_model.specs.Take.{MatchedTransaction}
use Rattle.call_laws.specs.Answers.{AreGiven}
use Rattle.call_laws.specs.EachDatagram.{turns_of}
use Rattle.call_laws.specs.Stages.{Leads, Stage, end_of}
use Rattle.call_state.specs.Matching.{BelongsTo}
use Rattle.fork_call.specs.Carry.{CarriesAll, Carrying, Sent, Lost, Silent}
use Rattle.fork_call.specs.Takes.{Takes}

-- ---- calls

-- what one call on a call answered
pub data Answer : Type 0 where
  -- `take` took this message, which came from this hop
  Took : MessageText → Hop → taking.Taken → Answer
  -- `pump` gave this
  Gave : Pumped → Answer
  -- `failed` was told of a datagram of this cause
  Told : Cause → Answer
  -- `carry` made these steps
  Carried : List Carrying → Answer
  -- `carry` made these, and was refused memory then; the call was not told of this datagram, which was lost just then
  CutOff : List Carrying → Option Datagram → Answer
  -- any of them was refused before it did anything
  Refused : Answer

-- at this moment
pub record AnswerAt : Type 0 where
  pub now : ℕ
  pub answer : Answer

-- a datagram that was lost was given by one step more
abbrev pub LosesUntold : ℕ → Call → Option Datagram → Call → Type 0
LosesUntold now call None new = new ≡ call
LosesUntold now call (Some d) new = Pumps call now (Send d) new

-- it goes on so, as each of these calls promises
abbrev pub Answers : ℕ → Call → Answer → Call → Type 0
Answers now call (Took m source taken) new = Takes call now m source taken new
Answers now call (Gave pumped) new = Pumps call now pumped new
Answers now call (Told cause) new = Fails call now cause new
Answers now call (Carried steps) new = CarriesAll now call steps new
Answers now call (CutOff steps lost) new = (mid : Call) × CarriesAll now call steps mid × LosesUntold now mid lost new
Answers now call Refused new = new ≡ call

-- one after another
abbrev pub AnswersAll : Call → List AnswerAt → Call → Type 0
AnswersAll call [] new = new ≡ call
AnswersAll call (answer ∷ answers) new = (mid : Call) × Answers answer.now call answer.answer mid × AnswersAll mid answers new

-- what came is a message; each that is read is one
abbrev pub IsSaid : Answer → Type 0
IsSaid (Took m source taken) = IsMessage m
IsSaid _ = Unit {0}

abbrev pub AreSaid : List AnswerAt → Type 0
AreSaid answers = AllByRecursion (λ (answer : AnswerAt). IsSaid answer.answer) answers

-- ---- what they hand to ports

-- each datagram of these steps, in order: each is handed to the port once
abbrev pub datagrams_of : List Carrying → List Datagram
datagrams_of [] = []
datagrams_of (Sent d ∷ steps) = d ∷ datagrams_of steps
datagrams_of (Lost d ∷ steps) = d ∷ datagrams_of steps
datagrams_of (Silent ∷ steps) = datagrams_of steps

abbrev pub one_lost : Option Datagram → List Datagram
one_lost None = []
one_lost (Some d) = d ∷ []

abbrev pub one_given : Pumped → List Datagram
one_given (Send d) = d ∷ []
one_given pump.Did = []
one_given pump.Idle = []

abbrev pub handed_by : Answer → List Datagram
handed_by (Took m source taken) = []
handed_by (Gave pumped) = one_given pumped
handed_by (Told cause) = []
handed_by (Carried steps) = datagrams_of steps
handed_by (CutOff steps lost) = datagrams_of steps ++ one_lost lost
handed_by Refused = []

abbrev pub handed_by_all : List AnswerAt → List Datagram
handed_by_all [] = []
handed_by_all (answer ∷ answers) = handed_by answer.answer ++ handed_by_all answers

-- ---- turns of a run

abbrev pub pump_turn : (now : ℕ) → Pumped → Turn
pump_turn now pumped = record { now = now; input = step.Pump; output = step.Did pumped }

abbrev pub failed_turn : (now : ℕ) → Cause → Turn
failed_turn now cause = record { now = now; input = step.Failed cause; output = step.Told }

-- `carry` pumps, and tells the call of what was lost
abbrev pub turns_of_step : (now : ℕ) → Carrying → List Turn
turns_of_step now (Sent d) = pump_turn now (Send d) ∷ []
turns_of_step now (Lost d) = pump_turn now (Send d) ∷ failed_turn now d.cause ∷ []
turns_of_step now Silent = pump_turn now pump.Did ∷ []

abbrev pub turns_of_steps : (now : ℕ) → List Carrying → List Turn
turns_of_steps now [] = []
turns_of_steps now (s ∷ steps) = turns_of_step now s ++ turns_of_steps now steps

abbrev pub turn_of_lost : (now : ℕ) → Option Datagram → List Turn
turn_of_lost now None = []
turn_of_lost now (Some d) = pump_turn now (Send d) ∷ []

-- these are the turns of what a call answered; a message is for a transaction that it belongs to
abbrev pub AreTurnsOf : (now : ℕ) → Call → Answer → List Turn → Type 0
AreTurnsOf now call (Took m source taken) turns =
    (to : MatchedTransaction) × BelongsTo call m to × (turns ≡ record { now = now; input = step.Take to m source; output = step.Took taken } ∷ [])
AreTurnsOf now call (Gave pumped) turns = turns ≡ pump_turn now pumped ∷ []
AreTurnsOf now call (Told cause) turns = turns ≡ failed_turn now cause ∷ []
AreTurnsOf now call (Carried steps) turns = turns ≡ turns_of_steps now steps
AreTurnsOf now call (CutOff steps lost) turns = turns ≡ turns_of_steps now steps ++ turn_of_lost now lost
AreTurnsOf now call Refused turns = turns ≡ []

-- one after another
abbrev pub AreTurns : Call → List AnswerAt → List Stage → Type 0
AreTurns call [] stages = stages ≡ []
AreTurns call (answer ∷ answers) stages =
    (first : List Stage)
    × (later : List Stage)
    × AreTurnsOf answer.now call answer.answer (turns_of first)
    × (stages ≡ first ++ later)
    × AreTurns (end_of call first) answers later

-- the log stays, or has one event more, with the reply to it
abbrev pub Logs : Log → Log → Type 0
Logs log new =
    (new ≡ log)
    ⊎ ((event : Event)
    × (reply : Reply)
    × IsReply (table_of log) event (length log.history) reply
    × (new ≡ added log call_tag event reply))

-- by each turn
abbrev pub LogEach : Call → List Stage → Type 0
LogEach call [] = Unit {0}
LogEach call (stage ∷ stages) = Logs call.log stage.call.log × LogEach stage.call stages

-- the datagrams that turns send, in order
abbrev pub one_sent : Output → List Datagram
one_sent (step.Took taken) = []
one_sent (step.Did pumped) = one_given pumped
one_sent step.Told = []

abbrev pub sent_by : List Turn → List Datagram
sent_by [] = []
sent_by (turn ∷ turns) = one_sent turn.output ++ sent_by turns

-- these are the stages of a run: each turn is that of its answer, with the call that it led to
pub record AreStages (call : Call) (answers : List AnswerAt) (stages : List Stage) (new : Call) : Type 0 where
  pub leads : Leads call stages
  pub ends : end_of call stages ≡ new
  pub turns : AreTurns call answers stages
  -- what its turns send is what was handed to ports, in that order
  pub sends : sent_by (turns_of stages) ≡ handed_by_all answers
  pub logs : LogEach call stages
  pub given : AreSaid answers → AreGiven stages

-- ---- law

-- each list of calls has its stages
abbrev pub CallsHaveStages : Type 0
CallsHaveStages = (call new : Call) (answers : List AnswerAt) → AnswersAll call answers new → (stages : List Stage) × AreStages call answers stages new
