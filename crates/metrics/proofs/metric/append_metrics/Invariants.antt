use Rattle.std.proofs.Common.{◌≡◌, ◌++◌, take}
use Rattle.metrics.specs.Metrics.{metrics_text}
use Rattle.metrics.proofs.metric.append_metrics.Given as goal

abbrev pub invariant-loop-metric : goal.invariant-loop-metric
invariant-loop-metric g l = l.out.items ≡ l.initial.out.items ++ metrics_text (take l.metric-index l.metrics)
