-- How a script with workers is read, one line at a time.
-- Here: what no public contract reaches.
use Rattle.std.specs.Prelude.{◌&&◌, ℕ, suc, nat_lt, Bool, true, false, not, bytes_eq, List, [], ◌∷◌, ◌++◌, length, Option, Some, None, Result, Ok, Err, option_and_then, if◌then◌else◌}
use Rattle.std.specs.List.{slice_split}
use Rattle.sip_lex.specs.Cut.{is}
use Rattle.fork_model.specs.Event.{Event}
use Rattle.fork_rank.specs.LineByLine.{lines_from}
use Rattle.fork_rank.specs.Pieces.{is_empty}
use Rattle.fork_program.specs.declared.script.ScriptPhase.{ScriptPhase}
use Rattle.fork_program.specs.declared.script.ScriptPhase.TheVariants.{AtKind, AtPrefer, AtDepth, AtTargets, AtEvents, AtAnswer}
use Rattle.fork_program.specs.Script as plain
use Rattle.fork_program.specs.Script.{has_kind}
use Rattle.fork_engine.specs.Workers.{Workers, most_workers}
use Rattle.fork_engine.specs.Spelling.{worker_text}

-- the lines read so far: what is forked with the last worker's events, and the events of the workers before it
pub record Draft : Type 0 where
  pub last : plain.Draft
  pub before : List (List Event)

abbrev pub no_draft : Draft
no_draft = record { last = plain.no_draft; before = [] }

-- whether a worker has begun: before the first there are no events
abbrev pub is_at_work : ScriptPhase → Bool
is_at_work AtKind = false
is_at_work AtPrefer = false
is_at_work AtDepth = false
is_at_work AtTargets = false
is_at_work AtEvents = true
is_at_work AtAnswer = true

abbrev pub first_worker : Draft → Draft
first_worker draft = record draft { last = record draft.last { phase = AtEvents } }

abbrev pub next_worker : Draft → Draft
next_worker draft = record {
  last = record { phase = AtEvents; script = record draft.last.script { events = [] } };
  before = draft.before ++ draft.last.script.events ∷ [];
}

-- a worker begins once it is known what is forked, as long as there are fewer than may be
abbrev pub with_worker : Draft → Option Draft
with_worker draft =
    if not (has_kind draft.last.phase) then None
    else (if not (is_at_work draft.last.phase) then Some (first_worker draft)
    else (if nat_lt (suc (length draft.before)) most_workers then Some (next_worker draft)
    else None))

-- another line is one of what is forked or of the last worker
abbrev pub with_last : Draft → plain.Draft → Option Draft
with_last draft last =
    if is_at_work last.phase && not (is_at_work draft.last.phase) then None else Some (record draft { last = last })

-- with one more line, where it is one and may come
abbrev pub drafted : Draft → List ℕ → Option Draft
drafted draft line =
    if bytes_eq line worker_text then with_worker draft
    else option_and_then (with_last draft) (plain.drafted draft.last line)

abbrev pub workers_in : Draft → Workers
workers_in draft = record {
  kind = draft.last.script.kind;
  rules = draft.last.script.rules;
  targets = draft.last.script.targets;
  scripts = draft.before ++ draft.last.script.events ∷ [];
}

-- behind the last LF nothing stands, and a worker has begun
abbrev pub finished_draft : ℕ → Draft → List ℕ → Result Workers ℕ
finished_draft number draft rest = if is_empty rest && is_at_work draft.last.phase then Ok (workers_in draft) else Err number

-- the lines from this number on, and what stands behind the last LF
abbrev pub read_from : ℕ → Draft → List (List ℕ) → Result Workers ℕ
read_from number draft lines = lines_from drafted finished_draft number draft lines

-- the script with workers, or the number of the first malformed line; a line that is missing has the number it would have
unfoldable pub read_workers : List ℕ → Result Workers ℕ
read_workers text = read_from 1 no_draft (slice_split (is 10) text)
