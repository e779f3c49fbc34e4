use Rattle.sip_via.proofs.Common.{◌∙◌, ap, is_end}
use Rattle.sip_via.proofs.FrontLaws.{address_is}
use Rattle.sip_via.proofs.address.is_address.Goals as goal

pub returns : goal.returns
returns c = c.is_end.ensures ∙ ap is_end c.behind_address.ensures ∙ address_is c.args.addr c.args.text.now
