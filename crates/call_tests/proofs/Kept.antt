-- What a test does with a call that is sound leaves it sound.
use Rattle.std.proofs.Common.{◌≡◌, ℕ, refl, true, false, Bool, List, [], ◌∷◌, Option, Some, None, slice_get}
use Rattle.std.specs.Prelude.{is_none, is_some}
use Rattle.std.proofs.lemmas.Bool.{and_from}
use Rattle.fork_model.specs.Table.{is_trying}
use Rattle.sip_text.specs.Text.{MessageText}
use Rattle.call_model.specs.Built.{Datagram, answer_of, status_of}
use Rattle.call_model.specs.Call.{Call, is_sent, nth_branch, row_passes}
use Rattle.call_model.specs.Due.{SendAnswer, SendRequest, is_any}
use Rattle.call_model.specs.OpenedRequest.{Destination}
use Rattle.call_model.specs.Branch.{Branch}
use Rattle.call_model.specs.Pump as pump
use Rattle.call_model.specs.Pump.{AnswersBy, AnswersWith, Does, Pumped, Pumps, SendsAnswer, SendsRequest}
use Rattle.call_model.specs.Server as server
use Rattle.call_model.specs.Server.{answer_event, served_out}
use Rattle.call_model.specs.Step.{Did, Pump, Take, Took, Turn}
use Rattle.call_model.specs.Take as take
use Rattle.call_model.specs.Take.{is_response}

pub request_step : (call new : Call) (now n : ℕ) (d : Datagram) → row_passes is_trying call n ≡ true → is_sent call n ≡ false
    → (destination : Destination) × (slice_get call.destinations n ≡ Some destination) × SendsRequest call now n destination (pump.Send d) new → Pumps call now (pump.Send d) new
request_step call new now n d trying unsent sends =
    (SendRequest n, and_from (row_passes is_trying call n) (is_none (nth_branch call n)) trying (none (nth_branch call n) unsent), sends)
  where
    none : (branch : Option Branch) → is_some branch ≡ false → is_none branch ≡ true
    none None e = refl
    none (Some branch) e = absurd cc

-- by this turn
abbrev pub sent_turn : (now : ℕ) → Pumped → Turn
sent_turn now p = record { now = now; input = Pump; output = Did p }

abbrev pub taken_turn : Call → (n now : ℕ) → MessageText → take.Taken → Turn
taken_turn call n now m k = record { now = now; input = Take (take.Client n) m call.opened.caller; output = Took k }

not_idle_by : (call : Call) (now : ℕ) (rest : List server.Owed) (m : MessageText) (b : Bool) (new : Call) → AnswersBy call now rest m b pump.Idle new → ⊥
not_idle_by call now rest m true new (is, same) = absurd cc
not_idle_by call now rest m false new (is, same) = absurd cc

not_idle_with : (call : Call) (now : ℕ) (rest : List server.Owed) (m : Option MessageText) (new : Call) → AnswersWith call now rest m pump.Idle new → ⊥
not_idle_with call now rest None new e = e
not_idle_with call now rest (Some m) new e = not_idle_by call now rest m (is_response (served_out (answer_event (status_of m)) now call.server.machine).send) new e

not_idle : (call : Call) (now : ℕ) (owed : List server.Owed) (new : Call) → SendsAnswer call now owed pump.Idle new → ⊥
not_idle call now [] new e = e
not_idle call now (server.Again ∷ rest) new (is, same) = absurd cc
not_idle call now (server.CancelOk cancel to ∷ rest) new (is, same) = absurd cc
not_idle call now (server.Trying ∷ rest) new e = not_idle_with call now rest (answer_of call server.Trying) new e
not_idle call now (server.Passed m ∷ rest) new e = not_idle_with call now rest (answer_of call (server.Passed m)) new e
not_idle call now (server.Final choice ∷ rest) new e = not_idle_with call now rest (answer_of call (server.Final choice)) new e

some_owed : (call : Call) (now : ℕ) (owed : List server.Owed) (p : Pumped) (new : Call) → SendsAnswer call now owed p new → is_any owed ≡ true
some_owed call now [] p new e = absurd e
some_owed call now (owed ∷ rest) p new e = refl

pub answer_step : (call new : Call) (now : ℕ) (p : Pumped) → Does call now SendAnswer p new → Pumps call now p new
answer_step call new now pump.Idle does = absurd (not_idle call now call.server.owed new does)
answer_step call new now (pump.Send d) does = (SendAnswer, some_owed call now call.server.owed (pump.Send d) new does, does)
answer_step call new now pump.Did does = (SendAnswer, some_owed call now call.server.owed pump.Did new does, does)
