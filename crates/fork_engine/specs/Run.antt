-- What is printed of workers that post to one fork: the rows that are tried at once, a line for each event in the order
-- in which they came, with the worker that posted it, and how the fork stands at the end (RFC 3261 sections 16.6, 16.7 and 9.1).
use Rattle.std.specs.Prelude.{◌≡◌, ℕ, suc, List, [], ◌∷◌, ◌++◌, codes}
use Rattle.std.specs.Fmt.{decimal}
use Rattle.fork_model.specs.Table.{Row, Table}
use Rattle.fork_model.specs.Step.{next}
use Rattle.fork_model.specs.Reply.{Reply}
use Rattle.fork_model.specs.History.{opening, AreReplies}
use Rattle.fork_model.specs.Log.{Posted, Log, events_of, table_of}
use Rattle.fork_engine.specs.Interleaving.{IsInterleaving}
use Rattle.fork_rank.specs.RuleLines.{ended}
use Rattle.fork_program.specs.Replay.{Ending, IsEnding, opening_text, reply_text, ending_lines}
use Rattle.fork_engine.specs.Workers.{Workers}

-- the number of the worker, and the reply to its event
abbrev pub post_text : List Row → ℕ → Reply → List ℕ
post_text rows worker reply = decimal worker ++ codes ": " ++ reply_text rows reply

-- a line for each event, by the rows after it
abbrev pub posts_text : Table → ℕ → List Posted → List Reply → List ℕ
posts_text t at [] replies = []
posts_text t at (post ∷ history) [] = []
posts_text t at (post ∷ history) (reply ∷ replies) =
    ended (post_text (next t post.event at).rows post.tag reply)
    ++ posts_text (next t post.event at) (suc at) history replies

abbrev pub log_text : Log → Ending → List ℕ
log_text log ending =
    ended (opening_text log.opening)
    ++ posts_text log.opening 0 log.history log.replies
    ++ ending_lines (table_of log) ending

-- the events of all workers, each worker's in its order, happened to what the script forks, and these are the replies
pub record IsRun (workers : Workers) (log : Log) : Type 0 where
  pub opened : log.opening ≡ opening workers.kind workers.rules workers.targets
  pub mixed : IsInterleaving workers.scripts log.history
  pub answered : AreReplies log.opening 0 (events_of log.history) log.replies

-- the text is that of the log, and of the end that it leads to
pub record IsPrinted (log : Log) (text : List ℕ) : Type 0 where
  pub ending : Ending
  pub last : IsEnding (table_of log) ending
  pub spelled : text ≡ log_text log ending
