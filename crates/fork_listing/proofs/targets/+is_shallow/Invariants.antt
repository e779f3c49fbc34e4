use Rattle.fork_listing.proofs.targets.+is_shallow.Given as goal

abbrev pub decreases-is_shallow : goal.decreases-is_shallow
decreases-is_shallow l = l.most
