use Rattle.metrics.proofs.Pieces.{four}
use Rattle.metrics.proofs.histogram.append_sum.Goals as goal

pub returns : goal.returns
returns g c = four _ _ _ _ _ _ _ _ _ c.in_ok-extend_from_slice.ensures.items c.in_ok-extend_from_slice-2.ensures.items c.in_ok-append_seconds.ensures c.in_ok-push.ensures.items
