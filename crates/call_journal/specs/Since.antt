-- Since when a branch stands as it does, by what is noted of its target.
use Rattle.std.specs.Prelude.{ℕ, ◌&&◌, Bool, true, false, List, [], ◌∷◌, Option, Some, None, if◌then◌else◌}
use Rattle.fork_tree.specs.declared.row.State.{State}
use Rattle.fork_tree.specs.declared.row.State.TheVariants as state
use Rattle.call_journal.specs.declared.notes.NotedEvent.{NotedEvent}
use Rattle.call_journal.specs.declared.notes.NotedEvent.TheVariants as happening
use Rattle.call_journal.specs.declared.notes.Note.{Note}
use Rattle.call_journal.specs.declared.standing.Stage.{Stage}
use Rattle.call_journal.specs.declared.standing.Stage.TheVariants as stage
use Rattle.call_journal.specs.Notes.{is_of}

abbrev pub is_at : Stage → NotedEvent → Bool
is_at stage.Rang (happening.Rang status) = true
is_at stage.Cancelled happening.Cancelled = true
is_at stage.TimedOut happening.TimedOut = true
is_at stage.Ended (happening.Answered status) = true
is_at stage.Ended happening.TransportError = true
is_at stage.Ended happening.GivenUp = true
is_at s what = false

-- the moment of the first note that brings target n to a stage
abbrev pub first_at : List Note → ℕ → Stage → Option ℕ
first_at [] n s = None
first_at (note ∷ notes) n s = if is_of n note && is_at s note.what then Some note.at else first_at notes n s

abbrev pub or_else : Option ℕ → Option ℕ → Option ℕ
or_else (Some at) other = Some at
or_else None other = other

-- a branch ends by what ended it, and where nothing else did by its time
abbrev pub since_of : List Note → ℕ → State → Option ℕ
since_of notes n state.Idle = None
since_of notes n state.Trying = None
since_of notes n (state.Rung false) = first_at notes n stage.Rang
since_of notes n (state.Rung true) = first_at notes n stage.Cancelled
since_of notes n (state.Ended end) = or_else (first_at notes n stage.Ended) (first_at notes n stage.TimedOut)
