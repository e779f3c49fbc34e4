use Rattle.fork_tree.proofs.Common.{◌≡◌, ◌-◌, ◌≤◌, tried}
use Rattle.fork_tree.proofs.tree.ForkTree.start_group.Given as goal

abbrev pub invariant-loop-n : goal.invariant-loop-n
invariant-loop-n g l = record {
  begun : l.first ≤ l.n;
  tried : l.self ≡ record l.fn.self { rows = tried l.fn.self.rows l.first (l.n - l.first) };
}
