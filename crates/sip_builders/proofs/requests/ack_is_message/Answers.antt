use Rattle.sip_builders.proofs.RequestsGood.{ack_good}
use Rattle.sip_builders.proofs.requests.ack_is_message.Goals as goal

pub returns : goal.returns
returns c = ack_good
