use Rattle.std.proofs.Common.{◌≡◌, ◌≤◌, ◌+◌, ◌++◌, fold, length, vec_capacity, vec_len}
use Rattle.std.specs.Vec.Iter.{into_iter_items, into_iter_len}
use Rattle.bindings.specs.Bindings.{after_binding}
use Rattle.bindings.proofs.changes.take_all_in.Given as goal

abbrev pub invariant-loop-new : goal.invariant-loop-new
invariant-loop-new g l = record {
  items : l.bindings.items ≡ fold (after_binding l.moment) l.fn.bindings.items l.yielded;
  rest : l.fn.made.items ≡ l.yielded ++ into_iter_items l.new-iterator;
  len : into_iter_len l.new-iterator ≡ length (into_iter_items l.new-iterator);
  room : vec_len l.bindings + into_iter_len l.new-iterator ≤ vec_capacity l.bindings;
}
