use Rattle.proxy_routing.proofs.Common.{◌≡◌, ◌∙◌, Bool, MessageText, Own, ap, arith, false, subst, suc, sym, true}
use Rattle.std.proofs.Common.{◌<◌, length}
use Rattle.sip_route.specs.declared.route_values.FirstRoute.{FirstRoute}
use Rattle.sip_route.specs.RouteValues.{first_route, route_values}
use Rattle.proxy_routing.specs.OwnRoutes.{leads_home, stripped_all, stripped_home}
use Rattle.proxy_routing.proofs.laws.OwnRoutes.{RoutesLeft, all_again, all_done, one_less}
use Rattle.proxy_routing.proofs.own_routes.strip_all.Goals as goal

told : (m : MessageText) (own route : Own) (first : FirstRoute) (b : Bool) → first ≡ first_route m → b ≡ leads_home own route first → leads_home own route (first_route m) ≡ b
told m own route first b is e = sym (e ∙ ap (leads_home own route) is)

shorter : RoutesLeft → (m new : MessageText) (own route : Own) → leads_home own route (first_route m) ≡ true → new ≡ stripped_home own route m
    → length (route_values new) < length (route_values m)
shorter left m new own route e is =
    let less : length (route_values m) ≡ suc (length (route_values (stripped_home own route m))) = one_less left own route m e in
    let fewer : length (route_values (stripped_home own route m)) < length (route_values m) = omega (arith, less) in
    let P : MessageText → Type 0 = λ x. length (route_values x) < length (route_values m) in
    subst P (sym is) fewer

pub loop-own-smaller : goal.loop-own-smaller
loop-own-smaller g c =
    shorter c.stripping_keeps_the_rest.ensures.routes c.loop-own.message c.strip_home-message.result c.args.own c.args.route
    (told c.loop-own.message c.args.own c.args.route c.first_route.result true c.first_route.ensures c.loop-own-test.ensures) c.strip_home-message.ensures

pub loop-own-preserved : goal.loop-own-preserved
loop-own-preserved g c =
    ap (stripped_all c.args.own c.args.route) c.strip_home-message.ensures
    ∙ all_again c.stripping_keeps_the_rest.ensures.routes c.args.own c.args.route c.loop-own.message
    (told c.loop-own.message c.args.own c.args.route c.first_route.result true c.first_route.ensures c.loop-own-test.ensures)
    ∙ c.loop-own.invariant

pub returns : goal.returns
returns g c =
    sym (all_done c.args.own c.args.route c.loop-own.message (told c.loop-own.message c.args.own c.args.route c.first_route.result false c.first_route.ensures c.loop-own-test.ensures))
    ∙ c.loop-own.invariant
