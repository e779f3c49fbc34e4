use Rattle.std.proofs.Common.{ℕ, ◌<◌, slice_index, arith}
use borrow.Author.Count.{below_more}
use Rattle.metrics.proofs.histogram.class_of.Goals as goal

pub loop-class-preserved : goal.loop-class-preserved
loop-class-preserved c =
    below_more (λ class. slice_index c.args.bounds.now class < c.args.value) _ c.loop-class.invariant (omega arith)
