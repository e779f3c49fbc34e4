use Rattle.sip_builders.proofs.RequestsGood.{cancel_good}
use Rattle.sip_builders.proofs.requests.cancel_is_message.Goals as goal

pub returns : goal.returns
returns c = cancel_good
