use Rattle.call_branch.proofs.Common.{◌≡◌, no_branches}
use Rattle.call_branch.proofs.branches.no_branches.Given as goal

abbrev pub invariant-loop-place : goal.invariant-loop-place
invariant-loop-place g l = l.branches.items ≡ no_branches l.place
