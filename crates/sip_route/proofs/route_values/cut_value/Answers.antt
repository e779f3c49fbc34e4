use Rattle.sip_route.proofs.RoutePieces.{next_value}
use Rattle.sip_route.proofs.route_values.cut_value.Goals as goal

pub returns : goal.returns
returns c = next_value c.args.text.now c.cut_outside.result c.cut_outside.ensures.value
