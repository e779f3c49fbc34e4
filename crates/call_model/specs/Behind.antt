-- The failure that the first branch keeps is the response behind its stored answer (RFC 3261 section 16.7 steps 4 to 6).
use Rattle.std.specs.Prelude.{◌≡◌, ◌⊎◌, ℕ, true, List, Some, slice_get}
use Rattle.fork_model.specs.Sources.{HasStored}
use Rattle.fork_model.specs.Table.{Rules, StoredAnswer}
use Rattle.fork_model.specs.Event.{Event}
use Rattle.fork_model.specs.History.{Target}
use Rattle.fork_model.specs.Chosen.{HasFirst}
use Rattle.fork_model.specs.Log.{events_of, opening_log, table_of}
use Rattle.sip_text.specs.Text.{MessageText}
use Rattle.call_model.specs.Begun.{begun}
use Rattle.call_model.specs.Built.{answer_in, status_of}
use Rattle.call_model.specs.Call.{Call, nth_branch}
use Rattle.call_model.specs.OpenedRequest.{OpenedRequest, Destination, kind_of}
use Rattle.call_model.specs.Response.{event_by}
use Rattle.call_model.specs.Sound.{IsSound}
use Rattle.call_model.specs.Step.{IsPostedBy, Turn, Step}

-- branch n keeps a response, which was posted as the event at this position
abbrev pub KeepsEvent : Call → (n at : ℕ) → Type 0
KeepsEvent call n at =
    (m : MessageText)
    × (answer_in (nth_branch call n) ≡ Some m)
    × (slice_get (events_of call.log.history) at ≡ Some (event_by call.opened.tried n (status_of m) m))

-- a branch with a stored answer that came, and that no stored answer ranks before, keeps the response that it was
abbrev pub KeepsAnswers : Call → Type 0
KeepsAnswers call =
    (n : ℕ) (stored : StoredAnswer) → HasStored (table_of call.log) n stored → stored.received ≡ true
    → HasFirst (table_of call.log) n → KeepsEvent call n stored.arrival

abbrev pub BegunKeepsAnswers : Type 0
BegunKeepsAnswers =
    (opened : OpenedRequest) (rules : Rules) (targets : List Target) (destinations : List Destination)
    → KeepsAnswers (begun opened (opening_log (kind_of opened) rules targets) destinations)

abbrev pub StepsKeepAnswers : Type 0
StepsKeepAnswers =
    (turn : Turn) (call new : Call) → IsSound call → KeepsAnswers call → Step turn.now call turn.input new turn.output → KeepsAnswers new

-- ---- by which turn it came

-- branch n had this stored answer, was first and kept the same response before; what the log says there stays
pub record StaysFirst (call new : Call) (n : ℕ) (stored : StoredAnswer) : Type 0 where
  pub has : HasStored (table_of call.log) n stored
  pub first : HasFirst (table_of call.log) n
  pub kept : answer_in (nth_branch new n) ≡ answer_in (nth_branch call n)
  pub opened : new.opened ≡ call.opened
  pub events : (event : Event) → slice_get (events_of call.log.history) stored.arrival ≡ Some event
      → slice_get (events_of new.log.history) stored.arrival ≡ Some event

-- or this turn posted the response that it keeps now
abbrev pub ComesFirst : Turn → Call → (n : ℕ) → StoredAnswer → Type 0
ComesFirst turn new n stored =
    (m : MessageText)
    × IsPostedBy turn n stored.arrival m
    × (answer_in (nth_branch new n) ≡ Some m)
    × (slice_get (events_of new.log.history) stored.arrival ≡ Some (event_by new.opened.tried n (status_of m) m))

abbrev pub FirstsStayOrCome : Type 0
FirstsStayOrCome =
    (turn : Turn) (call new : Call) → IsSound call → Step turn.now call turn.input new turn.output
    → (n : ℕ) (stored : StoredAnswer) → HasStored (table_of new.log) n stored → stored.received ≡ true → HasFirst (table_of new.log) n
    → StaysFirst call new n stored ⊎ ComesFirst turn new n stored
