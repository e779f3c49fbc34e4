-- What a script with workers spells: what is forked, as in a script without workers that has no events, and then for each
-- worker, the first of whom has the number 0, a line `worker` and its events. Each line is ended by LF.
--
--     kind INVITE
--     target 1000 a
--     target 1000 b
--     worker
--     answer 0 404
--     worker
--     answer 1 302
--     contact 500 c
--     timeout 2
use Rattle.std.specs.Prelude.{◌≡◌, ◌<◌, ◌≤◌, ℕ, List, [], ◌∷◌, ◌++◌, codes, length, map, Option}
use Rattle.std.specs.List.{flat_map, AllByRecursion}
use Rattle.fork_model.specs.Table.{Kind}
use Rattle.fork_model.specs.Event.{Event}
use Rattle.fork_model.specs.History.{Target}
use Rattle.fork_rank.specs.LineByLine.{lines_text}
use Rattle.fork_program.specs.Line as plain
use Rattle.fork_program.specs.Spelling as script
use Rattle.fork_program.specs.Spelling.{Told, told_lines, MayStandBehind, preferred_said, depth_said, event_said}
use Rattle.fork_engine.specs.Workers.{Workers, most_workers}

-- ---- what is written

-- the history of each worker
pub record Spelling : Type 0 where
  pub kind : Kind
  pub prefer : Option (List ℕ)
  pub depth : Option ℕ
  pub targets : List Target
  pub workers : List (List Told)

-- what is forked, as a script without events
abbrev pub forked : Spelling → script.Spelling
forked s = record { kind = s.kind; prefer = s.prefer; depth = s.depth; targets = s.targets; history = [] }

-- ---- its lines

-- a line that a script without workers may have, and one that begins a worker's events
pub data Line : Type 0 where
  PlainLine : plain.Line → Line
  WorkerLine : Line

abbrev pub worker_text : List ℕ
worker_text = codes "worker"

abbrev pub line_text : Line → List ℕ
line_text (PlainLine line) = plain.line_text line
line_text WorkerLine = worker_text

abbrev pub worker_lines : List Told → List Line
worker_lines history = WorkerLine ∷ map PlainLine (flat_map told_lines history)

abbrev pub lines_of : Spelling → List Line
lines_of s = map PlainLine (script.lines_of (forked s)) ++ flat_map worker_lines s.workers

abbrev pub text_of : List Line → List ℕ
text_of lines = lines_text line_text lines

-- ---- what may stand in them

abbrev pub IsLine : Line → Type 0
IsLine (PlainLine line) = plain.IsLine line
IsLine WorkerLine = Unit {0}

-- there is a worker, and there are not more than post to one fork
pub record IsSpelling (s : Spelling) : Type 0 where
  pub lines : AllByRecursion IsLine (lines_of s)
  pub behind : AllByRecursion (λ history. AllByRecursion (λ told. MayStandBehind told.event told.details) history) s.workers
  pub some : 0 < length s.workers
  pub few : length s.workers ≤ most_workers

-- ---- what they say

abbrev pub history_said : List Told → List Event
history_said history = map (λ told. event_said told.event told.details) history

abbrev pub workers_of : Spelling → Workers
workers_of s = record {
  kind = s.kind;
  rules = record { preferred = preferred_said s.prefer; depth = depth_said s.depth };
  targets = s.targets;
  scripts = map history_said s.workers;
}

-- ---- the text

abbrev pub IsSpelledAs : List ℕ → Spelling → Type 0
IsSpelledAs text s = IsSpelling s × (text ≡ text_of (lines_of s))

-- the text spells the script with workers
abbrev pub Spells : List ℕ → Workers → Type 0
Spells text workers = (s : Spelling) × IsSpelledAs text s × (workers_of s ≡ workers)
