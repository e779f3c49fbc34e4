-- What is printed of workers whose fork is done: one final answer, that to the event which ended the last branch, and all
-- that is stored with that answer first; of any other fork, no final answer (RFC 3261 section 16.7 steps 5, 6 and 10).
use Rattle.std.specs.Prelude.{◌≡◌, ◌⊎◌, ℕ, true, false, List, [], ◌∷◌, ◌++◌, Some, length, slice_get}
use Rattle.fork_model.specs.Table.{Table, is_finished, is_succeeded}
use Rattle.fork_model.specs.Choice.{Choice, IsChoice}
use Rattle.fork_model.specs.Reply.{Reply, Final}
use Rattle.fork_model.specs.History.{after, finals}
use Rattle.fork_model.specs.Log.{Posted, Log, events_of, table_of}
use Rattle.fork_listing.specs.declared.line.Ranked.{Ranked}
use Rattle.fork_listing.specs.Listed.{targets_of}
use Rattle.fork_listing.specs.Ranking.{IsRanking}
use Rattle.fork_listing.specs.Meaning.{FirstLineIs, row_chosen}
use Rattle.fork_program.specs.Replay.{Listed}
use Rattle.fork_engine.specs.Workers.{Workers}
use Rattle.fork_engine.specs.Spelling.{Spells}
use Rattle.fork_engine.specs.Run.{IsRun, IsPrinted, log_text}

-- every branch has ended, and none with a 2xx
abbrev pub IsDone : Log → Type 0
IsDone log = (is_finished (table_of log).rows ≡ true) × (is_succeeded (table_of log).rows ≡ false)

-- one of the events ended the last branch, and the reply to it is final
pub record LastEndIsAnswered (t : Table) (at : ℕ) (history : List Posted) (replies : List Reply) (choice : Choice) : Type 0 where
  pub before : List Posted
  pub post : Posted
  pub behind : List Posted
  pub placed : history ≡ before ++ post ∷ behind
  pub unfinished : is_finished (after t at (events_of before)).rows ≡ false
  pub finished : is_finished (after t at (events_of (before ++ post ∷ []))).rows ≡ true
  pub reply : Reply
  pub replied : slice_get replies (length before) ≡ Some reply
  pub final : reply.up ≡ Final choice

-- of the replies printed exactly one is final; its choice is the table's; what is printed ends in the listing of all that
-- is stored, in order of rank, whose first rank line is that answer's and whose last line tells that choice
pub record TellsOneFinal (workers : Workers) (log : Log) (printed : List ℕ) : Type 0 where
  pub ranks : List Ranked
  pub choice : Choice
  pub once : finals log.replies ≡ choice ∷ []
  pub last_end : LastEndIsAnswered log.opening 0 log.history log.replies choice
  pub chosen : IsChoice workers.rules (table_of log).rows choice
  pub ranking : IsRanking workers.rules (targets_of (table_of log).rows) ranks
  pub first : FirstLineIs ranks (row_chosen choice)
  pub spelled : printed ≡ log_text log (Listed ranks choice)

-- whatever run of the workers it is that was appended: where its fork is done, its one final answer was told
abbrev pub AppendsOneFinal : (text old new : List ℕ) → Type 0
AppendsOneFinal text old new =
    (workers : Workers) (log : Log) (printed : List ℕ)
    → Spells text workers
    → IsRun workers log
    → IsPrinted log printed
    → new ≡ old ++ printed
    → IsDone log
    → TellsOneFinal workers log printed

-- a branch has not ended, or one has with a 2xx
abbrev pub IsNotDone : Log → Type 0
IsNotDone log = (is_finished (table_of log).rows ≡ false) ⊎ (is_succeeded (table_of log).rows ≡ true)

-- whatever run of the workers it is that was appended: where its fork is not done, none of the replies printed is final
abbrev pub AppendsNoFinal : (text old new : List ℕ) → Type 0
AppendsNoFinal text old new =
    (workers : Workers) (log : Log) (printed : List ℕ)
    → Spells text workers
    → IsRun workers log
    → IsPrinted log printed
    → new ≡ old ++ printed
    → IsNotDone log
    → finals log.replies ≡ []
