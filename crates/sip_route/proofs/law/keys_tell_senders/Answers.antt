use Rattle.sip_route.proofs.KeyLaws.{same_key, same_sender}
use Rattle.sip_route.proofs.law.keys_tell_senders.Goals as goal

pub returns-clause-same : goal.returns-clause-same
returns-clause-same c = same_sender

pub returns-clause-key : goal.returns-clause-key
returns-clause-key c = same_key
