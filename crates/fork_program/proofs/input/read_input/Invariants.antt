use Rattle.fork_program.proofs.Common.{◌≡◌, ◌+◌, ◌≤◌, length, Consumes, most_text}
use Rattle.std.proofs.Common.{vec_len}
use Rattle.fork_program.proofs.input.read_input.Given as goal

abbrev pub invariant-loop : goal.invariant-loop
invariant-loop g l =
    (length l.text.items ≤ most_text + 1)
    × (vec_len l.chunk ≡ 65536)
    × Consumes (g.R.Read.remaining l.initial.reader) (g.R.Read.remaining l.reader) l.text.items
