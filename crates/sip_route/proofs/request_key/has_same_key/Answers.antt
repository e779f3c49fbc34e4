use Rattle.sip_route.proofs.KeyTexts.{are_same}
use Rattle.sip_route.proofs.request_key.has_same_key.Goals as goal

pub returns : goal.returns
returns g c =
    let key = c.in-Some.key in
    let other = c.in-Some-key_of.other in
    are_same c.args.a.now c.args.b.now key.host.now other.host.now key.branch.now other.branch.now key.port other.port c.is_same_key.result c.in-Some.ensures.found c.in-Some-key_of.ensures.found c.is_same_key.ensures
