use Rattle.sip_build.proofs.laws.ViasForwarded.{vias-forwarded}
use Rattle.sip_builders.proofs.via_laws.forwarding_puts_the_own_via_first.Goals as goal

pub returns : goal.returns
returns c = vias-forwarded
