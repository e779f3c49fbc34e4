use Rattle.fork_tree.proofs.Common.{◌≡◌, ◌+◌, ◌<◌, ◌≤◌, ℕ, Some, length, map, take, drop, slice_get, RowRef, q_of}
use Rattle.fork_tree.proofs.build.siblings.Given as goal

abbrev pub invariant-loop-i : goal.invariant-loop-i
invariant-loop-i g l = record {
  count : l.first + length l.qs.items ≡ l.i;
  each : l.qs.items ≡ map q_of (take (length l.qs.items) (drop l.first l.rows));
  all : (n : ℕ) (r : RowRef) → l.first ≤ n → n < l.i → slice_get l.rows n ≡ Some r → r.parent ≡ l.parent;
}
