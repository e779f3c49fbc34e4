use Rattle.std.proofs.Common.{ℕ, ◌<◌, slice_index}
use Rattle.metrics.proofs.histogram.class_of.Given as goal

abbrev pub invariant-loop-class : goal.invariant-loop-class
invariant-loop-class l = (class : ℕ) → class < l.class → slice_index l.bounds class < l.value
