use Rattle.fork_program.proofs.Common.{◌≡◌, ◌++◌, take, added_lines}
use Rattle.fork_program.proofs.print.append_challenges.Given as goal

abbrev pub invariant-loop-challenge : goal.invariant-loop-challenge
invariant-loop-challenge g l = l.text.items ≡ l.initial.text.items ++ added_lines (take l.challenge-index l.challenges)
