use Rattle.sip_builders.proofs.laws.GeneratedGood.{generated_good}
use Rattle.sip_builders.proofs.responses.generated_is_message.Goals as goal

pub returns : goal.returns
returns c = generated_good
