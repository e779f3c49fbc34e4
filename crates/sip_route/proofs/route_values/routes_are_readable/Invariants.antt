use Rattle.sip_route.proofs.Common.{◌≡◌, length, list_all, route_values}
use Rattle.sip_route.specs.RouteValues.{is_route}
use Rattle.sip_route.proofs.route_values.routes_are_readable.Given as goal

abbrev pub invariant-loop-value : goal.invariant-loop-value
invariant-loop-value g l = list_all is_route l.values ≡ list_all is_route (route_values l.message)

abbrev pub decreases-loop-value : goal.decreases-loop-value
decreases-loop-value g l = length l.values
