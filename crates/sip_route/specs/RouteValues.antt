-- The Route values of a request (RFC 3261 sections 7.3.1, 16.6 steps 6 and 7, and 20.34).
use Rattle.std.specs.Prelude.{ℕ, Bool, true, false, List, [], ◌∷◌, Option, Some, None, Result, Ok, Err, if◌then◌else◌}
use Rattle.std.specs.List.{flat_map}
use Rattle.sip_lex.specs.declared.sheltered.Shelter.TheVariants.{QuotesAndAngles}
use Rattle.sip_lex.specs.Outside.{pieces_outside}
use Rattle.sip_text.specs.Name.{values_of}
use Rattle.sip_text.specs.Text.{MessageText}
use Rattle.sip_uri.specs.declared.fault.UriFault.{UriFault}
use Rattle.sip_uri.specs.declared.hop.Hop.{Hop}
use Rattle.sip_uri.specs.Reading.{read_uri}
use Rattle.sip_uri.specs.Uri.{Uri}
use Rattle.sip_via.specs.declared.own.Own.{Own}
use Rattle.sip_route.specs.declared.route_values.FirstRoute.{FirstRoute}
use Rattle.sip_route.specs.declared.route_values.FirstRoute.TheVariants.{Absent, NoHop, To}
use Rattle.sip_route.specs.Routes.{bracketed, hop_at_text, names_own, route_name}

-- the values of one line: what stands between its commas outside quotes and angle brackets
abbrev pub values_in : List ℕ → List (List ℕ)
values_in line = pieces_outside QuotesAndAngles 44 line

-- those of all Route lines, in order
abbrev pub route_values : MessageText → List (List ℕ)
route_values m = flat_map values_in (values_of route_name m.headers)

-- ---- each has a SIP URI in angle brackets

abbrev pub is_read : Result Uri UriFault → Bool
is_read (Ok uri) = true
is_read (Err fault) = false

abbrev pub is_read_at : Option (List ℕ) → Bool
is_read_at None = false
is_read_at (Some text) = is_read (read_uri text)

abbrev pub is_route : List ℕ → Bool
is_route value = is_read_at (bracketed value)

-- ---- where the first leads

abbrev pub led_to : Option Hop → FirstRoute
led_to None = NoHop
led_to (Some hop) = To hop

abbrev pub first_of : List (List ℕ) → FirstRoute
first_of [] = Absent
first_of (value ∷ values) = led_to (hop_at_text (bracketed value))

abbrev pub first_route : MessageText → FirstRoute
first_route m = first_of (route_values m)

-- ---- without the first, where that leads to the proxy

abbrev pub without_own : Own → List (List ℕ) → List (List ℕ)
without_own own [] = []
without_own own (value ∷ values) = if names_own own value then values else value ∷ values
