-- What a proxy is set up with: the address it receives at, the number of this run, the domain it answers for, the rules
-- of its forks, and where the users of the domain may be reached (RFC 3261 sections 16.5 and 16.6).
use Rattle.std.specs.Prelude.{◌≡◌, ◌<◌, ◌≤◌, ℕ, ◌&&◌, ◌==◌, Bool, true, false, bytes_eq, List, [], ◌∷◌, ◌++◌, map, filter, length, Option, None, Some, slice_get, unwrap_or, if◌then◌else◌}
use Rattle.std.specs.Fmt.{decimal}
use Rattle.std.specs.List.{list_any, AllByRecursion}
use Rattle.fork_model.specs.Table.{Rules, most_targets}
use Rattle.fork_rank.specs.Field.{most_q}
use Rattle.sip_uri.specs.declared.hop.Hop.{Hop}
use Rattle.sip_uri.specs.declared.hop.Transport.{Transport}
use Rattle.sip_uri.specs.declared.hop.Transport.TheVariants.{Udp, Tcp, Back}
use Rattle.sip_uri.specs.Hop.{hop_of}
use Rattle.sip_uri.specs.Host.{is_host}
use Rattle.sip_uri.specs.Key.{key_of}
use Rattle.sip_uri.specs.Uri.{Uri}
use Rattle.sip_via.specs.Address.{address_text}
use Rattle.sip_via.specs.declared.own.Own.{Own}
use Rattle.proxy_config.specs.declared.dialog_token.DialogToken.{DialogToken}

-- how long a branch rings at most where nothing says less, in milliseconds (timer C, section 16.6 step 11)
abbrev pub usual_longest : ℕ
usual_longest = 181000

-- q in thousandths; a hop where requests do not go by that of the URI; how long a branch rings at most, in milliseconds
pub record Location : Type 0 where
  pub user : List ℕ
  pub q : ℕ
  pub uri : Uri
  pub hop : Option Hop
  pub longest : ℕ

-- the hop by which requests reach a target outside of the domain: a URI with this key
pub record Way : Type 0 where
  pub key : List ℕ
  pub hop : Hop

pub record Setup : Type 0 where
  pub own : Own
  pub instance : ℕ
  pub domain : List ℕ
  pub rules : Rules
  pub locations : List Location
  -- whether the own address counts as the domain with the own port alone, or else with any port (section 16.5)
  pub by_port : Bool
  -- whether each Route value at the front that leads to the proxy is taken away, or else the first alone (section 16.4)
  pub for_service : Bool
  -- how long a branch to a target that is no location rings at most, in milliseconds (section 16.6 step 11)
  pub ring : ℕ
  -- whether a request that opens a dialog gets a Record-Route line (section 16.6 step 4)
  pub records : Bool
  -- whether a 100 gets the Timestamp line of its request (section 8.2.6.1)
  pub stamps : Bool
  -- whether a CANCEL says why the branch is cancelled (RFC 3326)
  pub reasons : Bool
  -- whether the proxy has connections, so that requests may go over TCP (section 18)
  pub streams : Bool
  -- whether requests of more than 1,300 bytes go over TCP, where it has connections (section 18.1.1)
  pub large : Bool
  -- by which hops targets outside of the domain are reached (section 16.6 step 7); of several for one target the last counts
  pub ways : List Way
  -- the realm of the proxy, whose credentials do not go on with a request (section 22.3)
  pub realm : Option (List ℕ)
  -- what the token in the Record-Route line of a request that opens a dialog is made with
  pub token : Option DialogToken
  -- the address and the port that a Record-Route line names where they are not the own (section 16.6 step 4): those of a front, or of
  -- several proxies, each of which takes a Route value that leads there as its own
  pub route : Option Own

-- what a Record-Route line names
abbrev pub route_of : Setup → Own
route_of setup = unwrap_or setup.route setup.own

-- by which hop a request goes to a location (section 16.6 step 7): by its own, or else by that of its URI
abbrev pub hop_or_that_of : Option Hop → Uri → Option Hop
hop_or_that_of None uri = hop_of uri
hop_or_that_of (Some hop) uri = Some hop

abbrev pub next_hop : Location → Option Hop
next_hop location = hop_or_that_of location.hop location.uri

-- over TCP only where the proxy has connections (section 18)
abbrev pub is_reached : (streams : Bool) → Transport → Bool
is_reached streams Udp = true
is_reached streams Tcp = streams
is_reached streams (Back sent_by) = streams

abbrev pub is_reached_by : (streams : Bool) → Option Hop → Bool
is_reached_by streams None = false
is_reached_by streams (Some hop) = is_reached streams hop.transport

-- ---- what decides whether two targets are the same (section 16.5)

abbrev pub is_same_transport : Transport → Transport → Bool
is_same_transport Udp Udp = true
is_same_transport Tcp Tcp = true
is_same_transport (Back port) (Back other) = port == other
is_same_transport _ _ = false

abbrev pub is_same_hop : Hop → Option Hop → Bool
is_same_hop hop None = false
is_same_hop hop (Some other) = bytes_eq hop.addr other.addr && hop.port == other.port && is_same_transport hop.transport other.transport

-- a line feed, which no URI has, and the address and the port
abbrev pub hop_key : Hop → List ℕ
hop_key hop = 10 ∷ (address_text hop.addr ++ 58 ∷ decimal hop.port)

-- the key of the URI, and the hop behind it where that is another one than the URI's own
abbrev pub target_key : Uri → Option Hop → List ℕ
target_key uri None = key_of uri
target_key uri (Some hop) = if is_same_hop hop (hop_of uri) then key_of uri else key_of uri ++ hop_key hop

abbrev pub location_key : Location → List ℕ
location_key location = target_key location.uri location.hop

-- ---- locations

-- a location that has the usual longest time has this one
abbrev pub with_longest : ℕ → Location → Location
with_longest longest location = record location { longest = if location.longest == usual_longest then longest else location.longest }

-- so rings each location, and each other target
abbrev pub with_ring : ℕ → Setup → Setup
with_ring longest setup = record setup { locations = map (with_longest longest) setup.locations; ring = longest }

abbrev pub is_of_user : List ℕ → Location → Bool
is_of_user user location = bytes_eq location.user user

-- the locations of a user, in their order
abbrev pub locations_of : List ℕ → List Location → List Location
locations_of user locations = filter (is_of_user user) locations

-- the other one is of the same user, and the same target
abbrev pub is_same : Location → Location → Bool
is_same location other = is_of_user location.user other && bytes_eq (location_key other) (location_key location)

-- what a location has to be, behind those that stand before it: a request can be sent there, its user has not got this target
-- yet, nor as many locations as may be tried
pub record MayFollow (streams : Bool) (earlier : List Location) (location : Location) : Type 0 where
  pub hop : is_reached_by streams (next_hop location) ≡ true
  pub q : location.q ≤ most_q
  pub apart : list_any (is_same location) earlier ≡ false
  pub few : length (locations_of location.user earlier) < most_targets

abbrev pub KeepsFrom : (streams : Bool) → List Location → List Location → Type 0
KeepsFrom streams earlier [] = Unit {0}
KeepsFrom streams earlier (location ∷ locations) = MayFollow streams earlier location × KeepsFrom streams (earlier ++ location ∷ []) locations

-- each location may follow those before it, where the proxy has connections or not
abbrev pub KeepsRulesWith : (streams : Bool) → List Location → Type 0
KeepsRulesWith streams locations = KeepsFrom streams [] locations

-- and where it has none
abbrev pub KeepsRules : List Location → Type 0
KeepsRules locations = KeepsRulesWith false locations

-- what holds of each setup
pub record IsKeptWith (streams : Bool) (own : Own) (domain : List ℕ) (locations : List Location) : Type 0 where
  pub port : 1 ≤ own.port
  pub domain_is : is_host domain ≡ true
  pub locations_keep : KeepsRulesWith streams locations

-- the targets of a request to a user: no more than may be tried, none twice, each with an address to send to, at a q of at most one
pub record AreTargets (streams : Bool) (locations : List Location) : Type 0 where
  pub few : length locations ≤ most_targets
  pub apart : (m n : ℕ) (key : List ℕ) → m < n → slice_get (map location_key locations) m ≡ Some key → slice_get (map location_key locations) n ≡ Some key → ⊥
  pub hops : AllByRecursion (λ location. is_reached_by streams (next_hop location) ≡ true) locations
  pub weights : AllByRecursion (λ location. location.q ≤ most_q) locations

-- so are the locations of each user, where each may follow those before it
abbrev pub LocationsAreTargets : Type 0
LocationsAreTargets =
    (streams : Bool) (user : List ℕ) (locations : List Location) → KeepsRulesWith streams locations → AreTargets streams (locations_of user locations)
