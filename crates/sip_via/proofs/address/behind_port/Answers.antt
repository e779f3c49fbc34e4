use Rattle.sip_via.proofs.Common.{common_steps, arith}
use Rattle.sip_via.proofs.FrontLaws.{port_found}
use Rattle.sip_via.proofs.address.behind_port.Goals as goal

pub returns : goal.returns
returns c = grind (arith, common_steps, port_found)
