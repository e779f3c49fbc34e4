-- What the laws of runs say of a call that was played by calls alone, from its opening to its last answer (RFC 3261 sections 16 and 17).
use Rattle.std.specs.Prelude.{◌≡◌, ℕ, true, false, List, [], ◌∷◌, ◌++◌}
use Rattle.fork_model.specs.Table.{is_finished, is_succeeded}
use Rattle.sip_text.specs.Text.{MessageText}
use Rattle.sip_uri.specs.declared.hop.Hop.{Hop}
use Rattle.call_model.specs.Built.{Datagram}
use Rattle.call_model.specs.Call.{Call, rows_of}
use Rattle.call_model.specs.OpenedRequest.{is_invite}
use Rattle.call_model.specs.Pump.{Send}
use Rattle.call_model.specs.Step.{Did}
use Rattle.call_laws.specs.Answers.{AnswersOnce, PaysInOrder}
use Rattle.call_laws.specs.Stages.{Stage}
use Rattle.call_laws.specs.Successes.{GoesUp, PostsSuccess}
use Rattle.proxy_config.specs.Setup.{Setup}
use Rattle.fork_call.specs.Opening.{Opens}
use Rattle.fork_call.specs.Answered.{IsRight}
use Rattle.fork_call.specs.Runs.{AnswerAt, AnswersAll, AreSaid, AreStages}

-- some calls on it lead there, and each that takes takes a message
abbrev pub IsPlayed : Call → Call → Type 0
IsPlayed call new = (answers : List AnswerAt) × AnswersAll call answers new × AreSaid answers

-- every branch has ended, none with a 2xx, and nothing is owed
pub record HasEnded (call : Call) : Type 0 where
  pub finished : is_finished (rows_of call) ≡ true
  pub failed : is_succeeded (rows_of call) ≡ false
  pub paid : call.server.owed ≡ []

-- the call that the request opens was played to its end by these calls, and these are its stages: what came to be owed was paid in
-- order, one final answer went up, each 2xx that a stage posts does, and each datagram that a stage sends is right
pub record EndsRight (setup : Setup) (m : MessageText) (source : Hop) : Type 0 where
  pub number : ℕ
  pub call : Call
  pub new : Call
  pub answers : List AnswerAt
  pub stages : List Stage
  pub opens : Opens setup number m source call
  pub ends : HasEnded new
  pub are : AreStages call answers stages new
  pub pays : PaysInOrder call stages
  pub once : AnswersOnce call stages
  pub goes_up : (before : List Stage) (stage : Stage) (later : List Stage) (answer : MessageText) → is_invite call.opened ≡ true → stages ≡ before ++ stage ∷ later
      → PostsSuccess stage.turn answer → GoesUp call before stage later answer
  pub right : (before : List Stage) (stage : Stage) (later : List Stage) (d : Datagram) → stages ≡ before ++ stage ∷ later → stage.turn.output ≡ Did (Send d)
      → IsRight setup call before d

-- ---- law

-- whatever calls lead from its opening to its end
abbrev pub PlayedCallsEndRight : Type 0
PlayedCallsEndRight =
    (setup : Setup) (number : ℕ) (m : MessageText) (source : Hop) (call new : Call) → Opens setup number m source call → IsPlayed call new → HasEnded new
    → EndsRight setup m source
