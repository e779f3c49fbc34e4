-- Where a request may be sent, and by which hop (RFC 3261 sections 16.5 and 16.6).
use Rattle.std.specs.Prelude.{ℕ, Bool, true, not, ◌==◌, ◌&&◌, ◌||◌, List, [], ◌∷◌, map, Option, Some, None, is_some, if◌then◌else◌}
use Rattle.std.specs.Str.{bytes_eq, str_to_ascii_lowercase}
use Rattle.fork_model.specs.History.{Target}
use Rattle.fork_rank.specs.Field.{most_q}
use Rattle.sip_uri.specs.declared.hop.Hop.{Hop}
use Rattle.sip_uri.specs.Hop.{hop_of}
use Rattle.sip_uri.specs.Key.{key_of}
use Rattle.sip_uri.specs.Uri.{Uri}
use Rattle.sip_via.specs.Address.{address_text}
use Rattle.sip_via.specs.declared.own.Own.{Own}
use Rattle.sip_route.specs.declared.route_values.FirstRoute.{FirstRoute}
use Rattle.sip_route.specs.declared.route_values.FirstRoute.TheVariants.{Absent, NoHop, To}
use Rattle.proxy_config.specs.Setup.{Location, Setup, hop_or_that_of, is_reached, location_key, locations_of, next_hop}
use Rattle.proxy_config.specs.Ways.{way_to}

-- ---- by which hop (section 16.6 steps 6 and 7)

-- a hop that cannot be reached is none
abbrev pub reachable : (streams : Bool) → Option Hop → Option Hop
reachable streams None = None
reachable streams (Some hop) = if is_reached streams hop.transport then Some hop else None

-- by that of the first Route value, if there is one, else by that of the target
abbrev pub hop_over : (streams : Bool) → FirstRoute → Option Hop → Option Hop
hop_over streams Absent hop = reachable streams hop
hop_over streams NoHop hop = None
hop_over streams (To first) hop = reachable streams (Some first)

-- to a URI outside of the domain: by the way to it, if there is one
abbrev pub hop_to : Setup → FirstRoute → Uri → Option Hop
hop_to setup route uri = hop_over setup.streams route (hop_or_that_of (way_to setup.ways uri) uri)

-- a target, with what tells it from others, tried at this q, in thousandths, the hop by which it is reached, if there is one, and how
-- long a branch there rings at most, in milliseconds
pub record CandidateTarget : Type 0 where
  pub key : List ℕ
  pub q : ℕ
  pub uri : Uri
  pub hop : Option Hop
  pub longest : ℕ

-- ---- which targets there are (section 16.5)

-- a request by this hop goes to the own port; a URI without a hop leads to no other port
abbrev pub is_own_port : Own → Option Hop → Bool
is_own_port own None = true
is_own_port own (Some hop) = hop.port == own.port

-- the URI has the own address for its host, as it is written; where the setup counts the port, it leads to no other port of that
-- address, and without a port it leads to 5060 (section 19.1.2)
abbrev pub is_own : Setup → Uri → Bool
is_own setup uri = bytes_eq uri.host (address_text setup.own.addr) && (not setup.by_port || is_own_port setup.own (reachable setup.streams (hop_of uri)))

-- the proxy is responsible for this URI: its host is the domain, in any case, or it names the proxy by its own address
abbrev pub is_domain : Setup → Uri → Bool
is_domain setup uri =
    bytes_eq (str_to_ascii_lowercase uri.host) (str_to_ascii_lowercase setup.domain)
    || is_own setup uri

abbrev pub candidate_at : (streams : Bool) → FirstRoute → Location → CandidateTarget
candidate_at streams route location = record { key = location_key location; q = location.q; uri = location.uri; hop = hop_over streams route (next_hop location); longest = location.longest }

abbrev pub candidates_of : (streams : Bool) → FirstRoute → List Location → Option (List ℕ) → List CandidateTarget
candidates_of streams route locations None = []
candidates_of streams route locations (Some user) = map (candidate_at streams route) (locations_of user locations)

-- a URI that no location names
abbrev pub candidate_to : Setup → FirstRoute → Uri → CandidateTarget
candidate_to setup route uri = record { key = key_of uri; q = most_q; uri = uri; hop = hop_to setup route uri; longest = setup.ring }

-- where the proxy is responsible for it the locations of the user, else the Request-URI alone
abbrev pub candidates_by : (inside : Bool) → Setup → FirstRoute → Uri → List CandidateTarget
candidates_by inside setup route uri =
    if inside then candidates_of setup.streams route setup.locations uri.user
    else candidate_to setup route uri ∷ []

abbrev pub candidates : Setup → FirstRoute → Uri → List CandidateTarget
candidates setup route uri = candidates_by (is_domain setup uri) setup route uri

abbrev pub target_of : CandidateTarget → Target
target_of candidate = record { key = candidate.key; q = candidate.q }

abbrev pub targets_of : List CandidateTarget → List Target
targets_of cs = map target_of cs

abbrev pub has_hop : CandidateTarget → Bool
has_hop candidate = is_some candidate.hop

-- that of the first Route value, if there is one
abbrev pub hop_if_any : (streams : Bool) → FirstRoute → Option Hop
hop_if_any streams Absent = None
hop_if_any streams NoHop = None
hop_if_any streams (To hop) = reachable streams (Some hop)
