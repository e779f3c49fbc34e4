-- What the program prints of a fork that is done: one final answer, that to the event which ended the last branch, and all
-- that is stored with that answer first; of any other fork, no final answer (RFC 3261 section 16.7 steps 5, 6 and 10).
use Rattle.std.specs.Prelude.{◌≡◌, ◌⊎◌, ℕ, true, false, List, [], ◌∷◌, ◌++◌, Some, length, slice_get}
use Rattle.fork_model.specs.Table.{is_finished, is_succeeded}
use Rattle.fork_model.specs.Choice.{Choice, IsChoice}
use Rattle.fork_model.specs.Event.{Event}
use Rattle.fork_model.specs.Reply.{Reply, Final}
use Rattle.fork_model.specs.History.{finals}
use Rattle.fork_model.specs.Core.{Core, Outcome, Replied, core_after, AreOutcomes}
use Rattle.fork_model.specs.ExactlyOne.{replies_of}
use Rattle.fork_listing.specs.declared.line.Ranked.{Ranked}
use Rattle.fork_listing.specs.Listed.{targets_of}
use Rattle.fork_listing.specs.Ranking.{IsRanking}
use Rattle.fork_listing.specs.Meaning.{FirstLineIs, row_chosen}
use Rattle.fork_program.specs.Script.{Script}
use Rattle.fork_program.specs.Spelling.{Spells}
use Rattle.fork_program.specs.Replay.{Ending, Listed, IsEnding, opened, closed, replay_text}

-- every branch has ended, and none with a 2xx
abbrev pub IsDone : Script → Type 0
IsDone script = (is_finished (closed script).table.rows ≡ true) × (is_succeeded (closed script).table.rows ≡ false)

-- one of the events ended the last branch, and the reply to it is final
pub record LastEndIsAnswered (core : Core) (events : List Event) (outcomes : List Outcome) (choice : Choice) : Type 0 where
  pub before : List Event
  pub event : Event
  pub behind : List Event
  pub placed : events ≡ before ++ event ∷ behind
  pub unfinished : is_finished (core_after core before).table.rows ≡ false
  pub finished : is_finished (core_after core (before ++ event ∷ [])).table.rows ≡ true
  pub reply : Reply
  pub replied : slice_get outcomes (length before) ≡ Some (Replied reply)
  pub final : reply.up ≡ Final choice

-- of the replies printed exactly one is final; its choice is the table's; what is printed ends in the listing of all that
-- is stored, in order of rank, whose first rank line is that answer's and whose last line tells that choice
pub record TellsOneFinal (script : Script) (printed : List ℕ) : Type 0 where
  pub outcomes : List Outcome
  pub ranks : List Ranked
  pub choice : Choice
  pub answered : AreOutcomes (opened script) script.events outcomes
  pub once : finals (replies_of outcomes) ≡ choice ∷ []
  pub last_end : LastEndIsAnswered (opened script) script.events outcomes choice
  pub chosen : IsChoice script.rules (closed script).table.rows choice
  pub ranking : IsRanking script.rules (targets_of (closed script).table.rows) ranks
  pub first : FirstLineIs ranks (row_chosen choice)
  pub spelled : printed ≡ replay_text script outcomes (Listed ranks choice)

-- where the text spells a script whose fork is done, what was appended tells its one final answer
abbrev pub AppendsOneFinal : (text old new : List ℕ) → Type 0
AppendsOneFinal text old new =
    (script : Script) → Spells text script → IsDone script
    → (printed : List ℕ) × (new ≡ old ++ printed) × TellsOneFinal script printed

-- a branch has not ended, or one has with a 2xx
abbrev pub IsNotDone : Script → Type 0
IsNotDone script = (is_finished (closed script).table.rows ≡ false) ⊎ (is_succeeded (closed script).table.rows ≡ true)

-- none of the replies printed is final
pub record TellsNoFinal (script : Script) (printed : List ℕ) : Type 0 where
  pub outcomes : List Outcome
  pub ending : Ending
  pub answered : AreOutcomes (opened script) script.events outcomes
  pub none : finals (replies_of outcomes) ≡ []
  pub last : IsEnding (closed script).table ending
  pub spelled : printed ≡ replay_text script outcomes ending

-- where the text spells a script whose fork is not done, what was appended tells no final answer
abbrev pub AppendsNoFinal : (text old new : List ℕ) → Type 0
AppendsNoFinal text old new =
    (script : Script) → Spells text script → IsNotDone script
    → (printed : List ℕ) × (new ≡ old ++ printed) × TellsNoFinal script printed
