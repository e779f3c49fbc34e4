use Rattle.call_caller.proofs.Common.{◌≡◌, ◌+◌, ◌≤◌, ◌++◌, drop, map, table_of, HaveDestinations, count_in, destination_for, no_branch}
use Rattle.std.proofs.Common.{vec_len, vec_capacity}
use Rattle.std.specs.List.{filter_map}
use Rattle.call_caller.proofs.rows.add_rows.Given as goal

-- the rows that are left have their destinations yet, and there is room for them
abbrev pub invariant-loop-n : goal.invariant-loop-n
invariant-loop-n g l = record {
  have : HaveDestinations l.left.items (drop l.n (table_of l.book).rows);
  destinations : l.destinations.items ++ filter_map (destination_for l.left.items) (drop l.n (table_of l.book).rows) ≡ l.initial.destinations.items ++ filter_map (destination_for l.initial.left.items) (drop l.first (table_of l.book).rows);
  branches : l.branches.items ++ map no_branch (drop l.n (table_of l.book).rows) ≡ l.initial.branches.items ++ map no_branch (drop l.first (table_of l.book).rows);
  destinations_room : vec_len l.destinations + count_in l.left.items ≤ vec_capacity l.destinations;
  branches_room : vec_len l.branches + count_in l.left.items ≤ vec_capacity l.branches;
}
