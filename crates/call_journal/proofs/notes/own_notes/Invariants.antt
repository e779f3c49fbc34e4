use Rattle.std.proofs.Common.{◌≡◌, take}
use Rattle.call_journal.specs.Notes.{own_notes}
use Rattle.call_journal.proofs.notes.own_notes.Given as goal

abbrev pub invariant-loop-note : goal.invariant-loop-note
invariant-loop-note g l = l.own.items ≡ own_notes (take l.note-index l.notes) l.n
