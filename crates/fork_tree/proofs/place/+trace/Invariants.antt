use Rattle.fork_tree.proofs.place.+trace.Given as goal

abbrev pub decreases-trace : goal.decreases-trace
decreases-trace g l = l.n
