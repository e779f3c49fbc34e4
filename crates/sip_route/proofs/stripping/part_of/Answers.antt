use Rattle.sip_route.proofs.Common.{arith}
use Rattle.sip_route.proofs.StripPlaces.{part-others}
use Rattle.sip_route.proofs.stripping.part_of.Goals as goal

pub returns : goal.returns
returns c =
    let line = c.args.line.now in
    grind (arith, part-others)
