use Rattle.sip_build.proofs.NamedGood.{reasons-good}
use Rattle.sip_build.proofs.further.reason_lines.Goals as goal

pub returns-clause-good : goal.returns-clause-good
returns-clause-good g c = reasons-good c.args.message.now c.is_message.ensures.head.headers

pub returns-in_err-push-clause-good : goal.returns-in_err-push-clause-good
returns-in_err-push-clause-good g c = reasons-good c.args.message.now c.is_message.ensures.head.headers
