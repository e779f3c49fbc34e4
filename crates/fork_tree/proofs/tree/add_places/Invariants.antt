use Rattle.fork_tree.proofs.Common.{◌≡◌, ◌+◌, ◌++◌, map, take, vec_len, place_in}
use Rattle.std.proofs.Common.{vec_capacity}
use Rattle.fork_tree.proofs.tree.add_places.Given as goal

abbrev pub invariant-loop-i : goal.invariant-loop-i
invariant-loop-i g l = record {
  items : l.places.items ≡ l.fn.places.items ++ map (place_in l.parent) (take l.i l.new_rows);
  len : vec_len l.places ≡ vec_len l.fn.places + l.i;
  capacity : vec_capacity l.places ≡ vec_capacity l.fn.places;
}
