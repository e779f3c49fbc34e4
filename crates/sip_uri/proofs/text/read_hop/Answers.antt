use Rattle.sip_uri.proofs.Common.{◌∙◌, ap, sym, hop_if_read, parts}
use Rattle.sip_uri.specs.inner.Hop.{parts_hop}
use Rattle.sip_uri.proofs.laws.Found.{read_port_good}
use Rattle.sip_uri.proofs.laws.Only.{hop_only}
use Rattle.sip_uri.proofs.text.read_hop.Goals as goal

pub hop_of-requires : goal.hop_of-requires
hop_of-requires c = read_port_good c.args.text.now (parts c.in-Ok.cut) c.in-Ok.ensures.parts c.in-Ok.ensures.found

pub returns-in-Ok-clause-hop : goal.returns-in-Ok-clause-hop
returns-in-Ok-clause-hop c = λ u good spelled.
    c.hop_of.ensures ∙ ap parts_hop c.in-Ok.ensures.parts ∙ sym (ap hop_if_read c.in-Ok.ensures.found) ∙ hop_only c.args.text.now u good spelled

pub returns-in-Err-clause-hop : goal.returns-in-Err-clause-hop
returns-in-Err-clause-hop c = λ u good spelled. sym (ap hop_if_read c.in-Err.ensures.refused) ∙ hop_only c.args.text.now u good spelled
