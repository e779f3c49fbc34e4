use Rattle.sip_builders.proofs.ViasUpward.{vias-upward}
use Rattle.sip_builders.proofs.via_laws.upward_loses_the_top_via.Goals as goal

pub returns : goal.returns
returns c = vias-upward
