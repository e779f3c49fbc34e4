use Rattle.std.proofs.Common.{◌≡◌, drop}
use Rattle.call_journal.specs.Since.{first_at}
use Rattle.call_journal.proofs.standing.first_at.Given as goal

abbrev pub invariant-loop-note : goal.invariant-loop-note
invariant-loop-note l = first_at l.notes l.n l.stage ≡ first_at (drop l.note-index l.notes) l.n l.stage
