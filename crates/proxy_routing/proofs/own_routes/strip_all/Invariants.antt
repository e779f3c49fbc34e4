use Rattle.proxy_routing.proofs.Common.{◌≡◌}
use Rattle.std.proofs.Common.{length}
use Rattle.sip_route.specs.RouteValues.{route_values}
use Rattle.proxy_routing.specs.OwnRoutes.{stripped_all}
use Rattle.proxy_routing.proofs.own_routes.strip_all.Given as goal

-- what is left to be taken away is the same
abbrev pub invariant-loop-own : goal.invariant-loop-own
invariant-loop-own g l = stripped_all l.own l.route l.message ≡ stripped_all l.own l.route l.initial.message

abbrev pub decreases-loop-own : goal.decreases-loop-own
decreases-loop-own g l = length (route_values l.message)
