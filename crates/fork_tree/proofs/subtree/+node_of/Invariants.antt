use Rattle.fork_tree.proofs.subtree.+node_of.Given as goal

abbrev pub decreases-node_of : goal.decreases-node_of
decreases-node_of g l = l.n
