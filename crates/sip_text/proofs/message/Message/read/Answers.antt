use Rattle.sip_text.proofs.Public.{is_found, is_only}
use Rattle.sip_text.proofs.message.Message.read.Goals as goal

pub returns-clause-found : goal.returns-clause-found
returns-clause-found g c = is_found c.args.text.now c.read_all.result c.read_all.ensures

pub returns-clause-only : goal.returns-clause-only
returns-clause-only g c = is_only c.args.text.now c.read_all.result c.read_all.ensures
