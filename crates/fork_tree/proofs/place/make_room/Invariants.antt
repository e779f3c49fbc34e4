use Rattle.fork_tree.proofs.Common.{◌≡◌, take, vec_len}
use Rattle.std.proofs.Common.{vec_capacity}
use Rattle.fork_tree.proofs.place.make_room.Given as goal

abbrev pub invariant-loop-i : goal.invariant-loop-i
invariant-loop-i g l = record {
  items : l.room.items ≡ take l.i l.items.items;
  len : vec_len l.room ≡ l.i;
  capacity : vec_capacity l.room ≡ vec_capacity l.fn.room;
}
