use Rattle.fork_tree.proofs.Common.{◌≡◌, ◌≤◌, ◌++◌, length, map, drop, joined, pushed, AreWaiting, new_entries, new_rows_from, new_rows_of}
use Rattle.fork_tree.proofs.node.branches.Given as goal

abbrev pub invariant-loop-i : goal.invariant-loop-i
invariant-loop-i g l = record {
  placed : joined 0 l.groups.items ++ map (pushed (length l.groups.items)) (joined 0 l.nodes.items) ≡ new_entries l.first l.new_rows.items;
  waiting_row : l.new_rows.items ++ new_rows_from l.before (length l.groups.items) (length l.nodes.items) (drop l.i l.qs) ≡ new_rows_of l.qs;
  count : length l.new_rows.items ≡ l.i;
  groups_few : length l.groups.items ≤ l.i;
  waiting : AreWaiting l.nodes.items;
  nodes_few : length l.nodes.items ≤ l.i;
}
