use Rattle.fork_tree.proofs.series.+ready_down_to.Given as goal

abbrev pub decreases-ready_down_to : goal.decreases-ready_down_to
decreases-ready_down_to g l = l.n
