use Rattle.sip_uri.proofs.Common.{◌∙◌, sym}
use Rattle.sip_uri.proofs.laws.Hosts.{address_of-cut}
use Rattle.sip_uri.proofs.host.read_address.Goals as goal

pub returns : goal.returns
returns c = c.address_of_first.ensures ∙ sym (address_of-cut c.args.host.now)
