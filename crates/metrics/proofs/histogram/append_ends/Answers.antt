use Rattle.metrics.proofs.Pieces.{three}
use Rattle.metrics.proofs.histogram.append_ends.Goals as goal

pub returns : goal.returns
returns g c = three _ _ _ _ _ _ _ c.in_ok-append_value.ensures c.in_ok-append_sum.ensures c.in_ok-append_value-2.ensures
