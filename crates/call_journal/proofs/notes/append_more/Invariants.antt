use Rattle.std.proofs.Common.{◌≡◌, ◌++◌, take}
use Rattle.std.specs.List.{flat_map}
use Rattle.call_journal.specs.Notes.{behind_text}
use Rattle.call_journal.proofs.notes.append_more.Given as goal

abbrev pub invariant-loop-note : goal.invariant-loop-note
invariant-loop-note g l = l.out.items ≡ l.initial.out.items ++ flat_map behind_text (take l.note-index l.notes)
