-- What each target of a call did, and when: a line for each of which something is noted.
use Rattle.std.specs.Prelude.{ℕ, ◌==◌, nat_lt, Bool, List, [], ◌∷◌, ◌++◌, codes, Option, Some, None, if◌then◌else◌}
use Rattle.std.specs.Fmt.{decimal}
use Rattle.std.specs.List.{filter, flat_map, range_with_len}
use Rattle.fork_model.specs.Event.{Event, Ring, Answer, Timeout, Fault, TimerC, GiveUp, Cancel}
use Rattle.call_journal.specs.declared.notes.NotedEvent.{NotedEvent}
use Rattle.call_journal.specs.declared.notes.NotedEvent.TheVariants as happening
use Rattle.call_journal.specs.declared.notes.Note.{Note}

abbrev pub noted : ℕ → NotedEvent → ℕ → Option Note
noted n what at = Some (record { target = n; what = what; at = at })

-- of an event at this moment; the caller's CANCEL is of no target
abbrev pub note_of : ℕ → Event → Option Note
note_of at (Ring n status) = noted n (happening.Rang status) at
note_of at (Answer n answer) = noted n (happening.Answered answer.status) at
note_of at (Timeout n) = noted n happening.TimedOut at
note_of at (Fault n) = noted n happening.TransportError at
note_of at (TimerC n) = noted n happening.TimedOut at
note_of at (GiveUp n) = noted n happening.GivenUp at
note_of at Cancel = None

-- a 2xx is an answer; of any other final response the status alone is said
abbrev pub words : NotedEvent → List ℕ
words (happening.Rang status) = codes "rang " ++ decimal status
words (happening.Answered status) = if nat_lt status 300 then codes "answered " ++ decimal status else decimal status
words happening.TimedOut = codes "timed out"
words happening.TransportError = codes "transport error"
words happening.GivenUp = codes "given up"
words happening.Cancelled = codes "cancelled"

abbrev pub note_text : Note → List ℕ
note_text note = words note.what ++ (codes " at " ++ decimal note.at)

abbrev pub behind_text : Note → List ℕ
behind_text note = codes ", " ++ note_text note

-- the line of a target of which these are all notes, in their order
abbrev pub line_of : ℕ → List Note → List ℕ
line_of n [] = []
line_of n (note ∷ more) = codes "target " ++ (decimal n ++ (codes " " ++ (note_text note ++ (flat_map behind_text more ++ codes "\n"))))

abbrev pub is_of : ℕ → Note → Bool
is_of n note = note.target == n

abbrev pub own_notes : List Note → ℕ → List Note
own_notes notes n = filter (is_of n) notes

-- of the first targets, so many of them
abbrev pub targets_text : ℕ → List Note → List ℕ
targets_text count notes = flat_map (λ n. line_of n (own_notes notes n)) (range_with_len 0 count)
