use Rattle.sip_build.proofs.Common.{arith}
use Rattle.sip_build.proofs.Placed.{fits-item}
use Rattle.sip_build.proofs.runs.place_runs.Goals as goal

pub place_run-end-requires : goal.place_run-end-requires
place_run-end-requires g c = grind (arith, fits-item)
