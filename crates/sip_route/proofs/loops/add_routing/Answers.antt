use Rattle.sip_route.proofs.Common.{common_steps, arith}
use Rattle.sip_route.proofs.Unrouted.{empty_fields}
use Rattle.sip_route.proofs.loops.add_routing.Goals as goal

pub returns-else-may_be_routed : goal.returns-else-may_be_routed
returns-else-may_be_routed g c = grind (arith, common_steps, empty_fields)
