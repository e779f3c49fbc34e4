use Rattle.context_values.proofs.Common.{◌≡◌, take}
use Rattle.context_values.proofs.copy.copied_challenges.Given as goal

abbrev pub invariant-loop-challenge : goal.invariant-loop-challenge
invariant-loop-challenge g l = l.copies.items ≡ take l.challenge-index l.challenges
