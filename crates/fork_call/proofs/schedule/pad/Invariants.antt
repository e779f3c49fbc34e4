use Rattle.std.proofs.Common.{◌≡◌, ◌+◌, ◌++◌, None, replicate}
use Rattle.std.specs.Prelude.{vec_capacity, vec_len}
use Rattle.fork_call.proofs.schedule.pad.Given as goal

abbrev pub invariant-loop-place : goal.invariant-loop-place
invariant-loop-place g l = record {
  items : l.moments.items ≡ l.fn.moments.items ++ replicate l.place None;
  len : vec_len l.moments ≡ vec_len l.fn.moments + l.place;
  capacity : vec_capacity l.moments ≡ vec_capacity l.fn.moments;
}
