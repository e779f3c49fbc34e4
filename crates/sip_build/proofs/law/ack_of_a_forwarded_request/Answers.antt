use Rattle.sip_build.proofs.Common.{[], codes, to_value}
use Rattle.sip_build.proofs.laws.ViasForwarded.{along-forwarded}
use Rattle.sip_build.proofs.law.ack_of_a_forwarded_request.Goals as goal

pub returns : goal.returns
returns c m response target proxy branch recorded request is named = along-forwarded (codes "ACK") m target proxy branch recorded (to_value response) [] request is named
