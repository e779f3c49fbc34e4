-- What a call that opened answers its caller, and what it sends, in each run of it (RFC 3261 sections 8.2.6, 9.1, 16.6, 16.7,
-- 17.1.1.3 and 17.2).
use Rattle.std.specs.Prelude.{◌≡◌, ℕ, true, false, List, [], ◌∷◌, ◌++◌}
use Rattle.fork_model.specs.Table.{is_finished, is_succeeded}
use Rattle.sip_text.specs.Text.{MessageText}
use Rattle.sip_uri.specs.declared.hop.Hop.{Hop}
use Rattle.call_model.specs.Built.{Datagram}
use Rattle.call_model.specs.Call.{Call, rows_of}
use Rattle.call_laws.specs.Answers.{AnswersOnce, AreGiven, PaysInOrder}
use Rattle.call_laws.specs.EachDatagram.{IsRightAfter}
use Rattle.call_model.specs.OpenedRequest.{is_invite}
use Rattle.call_model.specs.Pump.{Send}
use Rattle.call_model.specs.Step.{Did}
use Rattle.call_laws.specs.Successes.{GoesUp, PostsSuccess}
use Rattle.call_laws.specs.Stages.{Leads, Stage, end_of}
use Rattle.proxy_config.specs.Setup.{Setup}
use Rattle.fork_call.specs.Opening.{Opens}
use Rattle.fork_call.specs.Naming.{GoesToTarget}

-- in each run of a call that opened, what came to be owed is paid once, in order, or is still owed
abbrev pub OpenedCallsPayInOrder : Type 0
OpenedCallsPayInOrder =
    (setup : Setup) (number : ℕ) (m : MessageText) (source : Hop) (call : Call) (stages : List Stage) → Opens setup number m source call
    → AreGiven stages → Leads call stages → PaysInOrder call stages

-- and once every branch has ended, none with a 2xx, and nothing is owed any more, one final answer was paid, which is the choice
-- of the fork
abbrev pub OneFinalAnswerGoesUp : Type 0
OneFinalAnswerGoesUp =
    (setup : Setup) (number : ℕ) (m : MessageText) (source : Hop) (call : Call) (stages : List Stage) → Opens setup number m source call
    → AreGiven stages → Leads call stages
    → is_finished (rows_of (end_of call stages)) ≡ true
    → is_succeeded (rows_of (end_of call stages)) ≡ false
    → (end_of call stages).server.owed ≡ []
    → AnswersOnce call stages

-- and each 2xx that a branch of an INVITE answers, and that is posted, comes to be owed by that turn, and was paid once nothing is
-- owed any more
abbrev pub EachSuccessGoesUp : Type 0
EachSuccessGoesUp =
    (setup : Setup) (number : ℕ) (m : MessageText) (source : Hop) (call : Call) (before : List Stage) (stage : Stage) (later : List Stage) (answer : MessageText)
    → Opens setup number m source call → is_invite call.opened ≡ true
    → AreGiven (before ++ stage ∷ later) → Leads call (before ++ stage ∷ later) → PostsSuccess stage.turn answer
    → GoesUp call before stage later answer

-- and each datagram that a stage sends is what its cause says, of that very run
pub record IsRight (setup : Setup) (call : Call) (before : List Stage) (d : Datagram) : Type 0 where
  pub is : IsRightAfter call before d
  -- a request to one of the targets that the call began with names it, and goes to its hop
  pub names : GoesToTarget setup call d

abbrev pub EachDatagramIsRight : Type 0
EachDatagramIsRight =
    (setup : Setup) (number : ℕ) (m : MessageText) (source : Hop) (call : Call) (before : List Stage) (stage : Stage) (later : List Stage) (d : Datagram)
    → Opens setup number m source call
    → AreGiven (before ++ stage ∷ later) → Leads call (before ++ stage ∷ later) → stage.turn.output ≡ Did (Send d)
    → IsRight setup call before d
