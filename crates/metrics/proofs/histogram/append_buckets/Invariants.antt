use Rattle.std.proofs.Common.{◌≡◌, ◌++◌, length}
use Rattle.metrics.specs.Metrics.{buckets_text, total_of}
use Rattle.metrics.proofs.histogram.append_buckets.Given as goal

abbrev pub invariant-loop-rest : goal.invariant-loop-rest
invariant-loop-rest g l = record {
  text : l.out.items ++ buckets_text l.name l.total l.rest ≡ l.initial.out.items ++ buckets_text l.name 0 l.buckets;
  total : total_of l.total l.rest ≡ total_of 0 l.buckets;
}

abbrev pub decreases-loop-rest : goal.decreases-loop-rest
decreases-loop-rest g l = length l.rest
