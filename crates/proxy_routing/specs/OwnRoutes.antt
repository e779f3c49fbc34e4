-- The Route values at the front of a request that lead to the proxy itself (RFC 3261 section 16.4).
use Rattle.std.specs.Prelude.{ℕ, zero, suc, Bool, false, ◌||◌, length, Some, if◌then◌else◌}
use Rattle.sip_text.specs.Text.{MessageText}
use Rattle.sip_via.specs.declared.own.Own.{Own}
use Rattle.sip_route.specs.declared.route_values.FirstRoute.{FirstRoute}
use Rattle.sip_route.specs.declared.route_values.FirstRoute.TheVariants.{Absent, NoHop, To}
use Rattle.sip_route.specs.RouteValues.{first_route, route_values}
use Rattle.sip_route.specs.Routes.{is_own, stripped}
use Rattle.proxy_config.specs.Setup.{Setup, route_of}

-- a Route value that leads there leads to an address of the proxy
abbrev pub leads_to : Own → FirstRoute → Bool
leads_to own Absent = false
leads_to own NoHop = false
leads_to own (To hop) = is_own own (Some hop)

-- to the one at which it receives, or to the one that its Record-Route line names
abbrev pub leads_home : (own route : Own) → FirstRoute → Bool
leads_home own route first = leads_to own first || leads_to route first

-- without the first value where that leads to the proxy
abbrev pub stripped_home : (own route : Own) → MessageText → MessageText
stripped_home own route m = if leads_to own (first_route m) then stripped m own else stripped m route

-- and again, so many times
abbrev pub stripped_times : ℕ → (own route : Own) → MessageText → MessageText
stripped_times zero own route m = m
stripped_times (suc n) own route m = stripped_times n own route (stripped_home own route m)

-- as often as there are values
unfoldable pub stripped_all : (own route : Own) → MessageText → MessageText
stripped_all own route m = stripped_times (length (route_values m)) own route m

-- a service takes them all away, any other proxy the first alone, where that leads to the own address
abbrev pub without_own_routes : Setup → MessageText → MessageText
without_own_routes setup m = if setup.for_service then stripped_all setup.own (route_of setup) m else stripped m setup.own
