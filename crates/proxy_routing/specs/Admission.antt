-- What a proxy asks of a request before it routes it (RFC 3261 section 16.3).
use Rattle.std.specs.Prelude.{◌≡◌, ◌≢◌, ℕ, ◌&&◌, ◌==◌, Bool, true, false, List, length, take, Result, Ok, Err, is_some, codes}
use Rattle.std.specs.List.{list_all}
use Rattle.std.specs.Str.{bytes_eq}
use Rattle.sip_text.specs.Name.{first_value}
use Rattle.sip_text.specs.Text.{MessageText}
use Rattle.sip_uri.specs.declared.fault.UriFault.{UriFault}
use Rattle.sip_uri.specs.declared.fault.UriFault.TheVariants as uris
use Rattle.sip_uri.specs.declared.hop.Hop.{Hop}
use Rattle.sip_uri.specs.Reading.{read_uri}
use Rattle.sip_uri.specs.Uri.{Uri}
use Rattle.sip_via.specs.declared.own.ViaFault.{ViaFault}
use Rattle.sip_branch.specs.BranchText.{cookie}
use Rattle.sip_via.specs.Received.{marked}
use Rattle.sip_via.specs.TopVia.{top_value}
use Rattle.sip_via.specs.ViaParts.{ViaText, branch_of, or_empty, read_via}
use Rattle.sip_route.specs.declared.hops.MaxForwards.{MaxForwards}
use Rattle.sip_route.specs.declared.hops.MaxForwards.TheVariants.{Unsaid, Said, Wrong}
use Rattle.sip_route.specs.Hops.{hops_of}
use Rattle.sip_route.specs.Loop.{request_uri}
use Rattle.sip_route.specs.LoopTest.{IsLoop}
use Rattle.sip_route.specs.RouteValues.{is_route, route_values}
use Rattle.proxy_config.specs.Setup.{Setup}
use Rattle.proxy_routing.specs.OwnCredentials.{IsWithoutOwnCredentials}
use Rattle.proxy_routing.specs.OwnRoutes.{without_own_routes}

-- ---- is it well formed (section 16.3 step 1)

abbrev pub begins_with : List ℕ → List ℕ → Bool
begins_with front text = bytes_eq (take (length front) text) front

abbrev pub has_cookie : Result ViaText ViaFault → Bool
has_cookie (Ok via) = begins_with cookie (or_empty (branch_of via))
has_cookie (Err fault) = false

-- its top Via value can be read, and its branch begins as RFC 3261 has it (section 8.1.1.7)
abbrev pub has_via : MessageText → Bool
has_via m = has_cookie (read_via (top_value m))

-- its first Max-Forwards value, if it has one, is a number of one to three digits, at most 255 (section 20.22)
abbrev pub are_hops : MaxForwards → Bool
are_hops Unsaid = true
are_hops (Said n) = true
are_hops Wrong = false

-- a SIP URI, or one of another scheme
abbrev pub is_uri_or_other : Result Uri UriFault → Bool
is_uri_or_other (Ok uri) = true
is_uri_or_other (Err uris.NotSip) = true
is_uri_or_other (Err _) = false

-- what its Request-URI is read as
abbrev pub target_uri : MessageText → Result Uri UriFault
target_uri m = read_uri (request_uri m.start)

-- each Route value has a SIP URI in angle brackets
abbrev pub is_well_formed : MessageText → Bool
is_well_formed m = has_via m && are_hops (hops_of m) && list_all is_route (route_values m) && is_uri_or_other (target_uri m)

-- ---- the other checks (section 16.3 steps 2 to 5)

abbrev pub is_spent : MaxForwards → Bool
is_spent Unsaid = false
is_spent (Said n) = n == 0
is_spent Wrong = false

-- no more proxy may pass it on (step 3)
abbrev pub is_at_its_end : MessageText → Bool
is_at_its_end m = is_spent (hops_of m)

-- it asks the proxy for an extension (step 5), and this proxy knows none
abbrev pub asks_extension : MessageText → Bool
asks_extension m = is_some (first_value (codes "proxy-require") m.headers)

-- the request with its source (section 18.2.1), without the Route values that the proxy takes away (section 16.4), and without the
-- credentials for its realm (section 22.3)
abbrev pub IsPrepared : Setup → MessageText → Hop → MessageText → Type 0
IsPrepared setup m source request =
    (with_source : MessageText)
    × (marked m source ≡ Ok with_source)
    × IsWithoutOwnCredentials setup.realm (without_own_routes setup with_source) request

-- what holds of a request behind the first three steps
pub record IsRoutable (m : MessageText) : Type 0 where
  pub formed : is_well_formed m ≡ true
  pub scheme : target_uri m ≢ Err uris.NotSip
  pub hops : is_at_its_end m ≡ false

-- what holds of a request behind the first four steps, and what it is prepared as
pub record IsAdmitted (setup : Setup) (m : MessageText) (source : Hop) (request : MessageText) : Type 0 where
  pub routable : IsRoutable m
  pub prepared : IsPrepared setup m source request
  pub new_here : IsLoop request setup.own → ⊥
