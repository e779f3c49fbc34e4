use Rattle.fork_tree.proofs.Common.{◌≡◌, ◌-◌, ◌+◌, ◌*◌, length, joined, open_of, closed_to}
use Rattle.fork_tree.proofs.node.+close.Given as goal

abbrev pub invariant-Level::close-loop-i : goal.invariant-Level::close-loop-i
invariant-Level::close-loop-i g l = record {
  closed : l.self-inside.groups.items ≡ closed_to l.i l.initial.self-inside.groups.items;
  counted : open_of (joined 0 l.self-inside.groups.items) + l.ended ≡ open_of (joined 0 l.initial.self-inside.groups.items);
}

abbrev pub decreases-Level::close : goal.decreases-Level::close
decreases-Level::close g l = 3 * length l.self.now + 2

abbrev pub decreases-Level::close-loop-i : goal.decreases-Level::close-loop-i
decreases-Level::close-loop-i g l = length l.self-inside.groups.items - l.i

abbrev pub invariant-NodeGroup::close-loop-i : goal.invariant-NodeGroup::close-loop-i
invariant-NodeGroup::close-loop-i g l = record {
  open_count : l.self-inside.open_count ≡ l.initial.self-inside.open_count;
  closed : l.self-inside.nodes.items ≡ closed_to l.i l.initial.self-inside.nodes.items;
  counted : open_of (joined 0 l.self-inside.nodes.items) + l.ended ≡ open_of (joined 0 l.initial.self-inside.nodes.items);
}

abbrev pub decreases-NodeGroup::close : goal.decreases-NodeGroup::close
decreases-NodeGroup::close g l = 3 * length l.self.now + 1

abbrev pub decreases-NodeGroup::close-loop-i : goal.decreases-NodeGroup::close-loop-i
decreases-NodeGroup::close-loop-i g l = length l.self-inside.nodes.items - l.i

abbrev pub decreases-Node::close : goal.decreases-Node::close
decreases-Node::close g l = 3 * length l.self.now
