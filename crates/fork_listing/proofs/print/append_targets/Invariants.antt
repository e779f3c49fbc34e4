use Rattle.fork_listing.proofs.Common.{◌≡◌, ◌++◌, take, targets_text}
use Rattle.fork_listing.proofs.print.append_targets.Given as goal

abbrev pub invariant-loop-target : goal.invariant-loop-target
invariant-loop-target g l = l.text.items ≡ l.initial.text.items ++ targets_text (take l.target-index l.targets)
