use Rattle.proxy_routing.proofs.Common.{◌≡◌, ◌∙◌, ap, codes, false, List, MessageText, ℕ, refl, sym, top_value, via_of}
use Rattle.std.specs.List.{flat_map}
use Rattle.sip_text.specs.Name.{full_name, same_name}
use Rattle.sip_route.specs.Routes.{route_name}
use Rattle.sip_via.specs.Received.{reply_of}
use Rattle.sip_via.specs.TopVia.{first_or_empty, values_in}
use Rattle.sip_via.proofs.laws.ReadTop.{reply-told}
use Rattle.proxy_routing.specs.OwnRoutes.{without_own_routes}
use Rattle.proxy_routing.proofs.law.what_was_read_tells_the_reply.Goals as goal

not_credentials : same_name (codes "proxy-authorization") (codes "via") ≡ false
unfolding full_name
not_credentials = refl

not_route : same_name route_name (codes "via") ≡ false
unfolding full_name
not_route = refl

abbrev top_of : List (List ℕ) → List ℕ
top_of lines = first_or_empty (flat_map values_in lines)

pub returns-clause-marked : goal.returns-clause-marked
returns-clause-marked c = λ m n source top is e. reply-told m n source top is e

pub returns-clause-prepared : goal.returns-clause-prepared
returns-clause-prepared c = λ setup m request source top is prepared.
    let with_source = prepared.0 in
    let same : top_value request ≡ top_value with_source =
    ap top_of (c.taking_credentials_keeps_the_rest.ensures.others setup.realm (without_own_routes setup with_source) request (codes "via") prepared.2 not_credentials)
    ∙ ap top_of (c.taking_own_routes_keeps_the_rest.ensures.others setup with_source (codes "via") not_route) in
    reply-told m with_source source top is prepared.1 ∙ sym (ap (λ (value : List ℕ). reply_of (via_of value) source) same)
