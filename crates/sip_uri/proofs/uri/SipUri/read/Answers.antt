use Rattle.sip_uri.proofs.laws.Found.{is_found}
use Rattle.sip_uri.proofs.laws.Only.{only_read}
use Rattle.sip_uri.proofs.uri.SipUri.read.Goals as goal

pub returns-clause-found : goal.returns-clause-found
returns-clause-found g c = is_found c.args.text.now c.read_all.result c.read_all.ensures.read

pub returns-clause-only : goal.returns-clause-only
returns-clause-only g c = only_read c.args.text.now c.read_all.result c.read_all.ensures.read
