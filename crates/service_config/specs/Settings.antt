-- What a service is set up with: the setup of the proxy, who is served, and by which gateways the world is reached.
use Rattle.std.specs.Prelude.{◌≡◌, ◌≤◌, ◌==◌, ◌&&◌, ◌||◌, ℕ, ◌*◌, not, nat_lt, Bool, true, false, is_some, List, [], ◌∷◌, ◌++◌, length, Option, Some, None, option_and_then, if◌then◌else◌}
use Rattle.std.specs.List.{list_any}
use Rattle.std.specs.Option.{option_map}
use Rattle.fork_rank.specs.Field.{most_q}
use Rattle.sip_digest.specs.declared.algorithm.Algorithms.{Algorithms}
use Rattle.sip_digest.specs.declared.algorithm.Algorithms.TheVariants as algorithms
use Rattle.sip_uri.specs.Hop.{hop_of}
use Rattle.sip_uri.specs.Reading.{read_uri}
use Rattle.sip_uri.specs.Uri.{Uri}
use Rattle.sip_uri.specs.declared.hop.Hop.{Hop}
use Rattle.proxy_config.specs.Line as setup
use Rattle.proxy_config.specs.Parts as parts
use Rattle.proxy_config.specs.Setup.{Location, Setup, is_reached, next_hop}
use Rattle.service_config.specs.Line.{Line, SetupLine, RingLine, RealmLine, ExpiresLine, LargeLine, StrangersLine, TrustLine, GatewayLine, LocationLine, CommentLine}
use Rattle.service_config.specs.Net.{address_number, has, loopback}
use Rattle.service_config.specs.declared.expirations.Expirations.{Expirations}
use Rattle.service_config.specs.declared.net.Net.{Net}

-- who registers proves to be a user of it (RFC 7616 section 3.3)
pub record Realm : Type 0 where
  pub text : List ℕ
  pub algorithms : Algorithms

-- where requests for users that the domain has not got are sent; q in thousandths
pub record Gateway : Type 0 where
  pub q : ℕ
  pub uri : Uri
  pub hop : Hop

pub record Settings : Type 0 where
  pub setup : Setup
  pub realm : Option Realm
  pub expirations : Expirations
  -- whether those whom nobody knows may call the users of the domain
  pub strangers : Bool
  pub nets : List Net
  pub gateways : List Gateway

-- ---- whom the settings trust

-- the hop has the address with this number
abbrev pub is_there : ℕ → Option Hop → Bool
is_there number None = false
is_there number (Some hop) = address_number hop.addr == number

abbrev pub is_location_at : ℕ → Location → Bool
is_location_at number location = is_there number (next_hop location)

abbrev pub is_gateway_at : ℕ → Gateway → Bool
is_gateway_at number gateway = address_number gateway.hop.addr == number

-- the nets that are trusted: this machine's where no line names one
abbrev pub trusted_nets : List Net → List Net
trusted_nets [] = loopback ∷ []
trusted_nets (net ∷ nets) = net ∷ nets

abbrev pub is_in_nets : List Net → List ℕ → Bool
is_in_nets nets addr = list_any (λ net. has net addr) (trusted_nets nets)

-- the address is in a net that is trusted, or is the own one
abbrev pub is_inside : Settings → List ℕ → Bool
is_inside settings addr = is_in_nets settings.nets addr || address_number addr == address_number settings.setup.own.addr

abbrev pub is_of_gateway : Settings → List ℕ → Bool
is_of_gateway settings addr = list_any (is_gateway_at (address_number addr)) settings.gateways

-- a request to a location or by a gateway goes to this address
abbrev pub is_host : List Location → List Gateway → ℕ → Bool
is_host locations gateways number = list_any (is_location_at number) locations || list_any (is_gateway_at number) gateways

abbrev pub is_trusted : Settings → List ℕ → Bool
is_trusted settings addr = is_inside settings addr || is_host settings.setup.locations settings.gateways (address_number addr)

-- ---- what a line adds

-- before the first line, for a run with this number, of a proxy that has connections or none
abbrev pub no_settings : ℕ → (streams : Bool) → Settings
no_settings number streams = record {
  setup = record parts.no_setup { instance = number; streams = streams };
  realm = None;
  expirations = record { least = 60; usual = 3600; most = 86400 };
  strangers = false;
  nets = [];
  gateways = [];
}

abbrev pub algorithms_or_md5 : Option Algorithms → Algorithms
algorithms_or_md5 None = algorithms.Md5
algorithms_or_md5 (Some them) = them

abbrev pub most_gateways : ℕ
most_gateways = 16

-- the same address and port
abbrev pub is_same_hop : Hop → Gateway → Bool
is_same_hop hop gateway = address_number gateway.hop.addr == address_number hop.addr && gateway.hop.port == hop.port

-- a URI with a hop that requests can go by, over TCP only where the proxy has connections, and without a user
abbrev pub gateway_at : (streams : Bool) → ℕ → Uri → Option Hop → Option Gateway
gateway_at streams q uri None = None
gateway_at streams q uri (Some hop) =
    if is_reached streams hop.transport && not (is_some uri.user) then Some (record { q = q; uri = uri; hop = hop }) else None

-- where it is none too many, and no other has its hop
abbrev pub gateway_added : List Gateway → Gateway → Option (List Gateway)
gateway_added gateways gateway =
    if nat_lt (length gateways) most_gateways && not (list_any (is_same_hop gateway.hop) gateways) then Some (gateways ++ gateway ∷ []) else None

abbrev pub with_uri : (streams : Bool) → List Gateway → ℕ → Uri → Option (List Gateway)
with_uri streams gateways q uri = option_and_then (gateway_added gateways) (gateway_at streams q uri (hop_of uri))

abbrev pub with_gateway : (streams : Bool) → List Gateway → ℕ → List ℕ → Option (List Gateway)
with_gateway streams gateways q text = option_and_then (with_uri streams gateways q) (parts.uri_if (read_uri text))

-- in milliseconds
abbrev pub longest_of : ℕ → Option ℕ → ℕ
longest_of ring None = ring
longest_of ring (Some seconds) = seconds * 1000

abbrev pub in_settings : Settings → Option Setup → Option Settings
in_settings settings made = option_map (λ setup. record settings { setup = setup }) made

abbrev pub with_location : Settings → List ℕ → ℕ → List ℕ → Option ℕ → Option Settings
with_location settings user q text seconds =
    in_settings settings (option_map (λ locations. record settings.setup { locations = locations })
    (parts.with_location settings.setup.streams settings.setup.locations user q text (longest_of settings.setup.ring seconds)))

-- what a line adds, where that may stand behind what the lines before it said
abbrev pub with_line : Settings → Line → Option Settings
with_line settings (SetupLine line) = in_settings settings (parts.with_line settings.setup line)
with_line settings (RingLine seconds) = Some (record settings { setup = record settings.setup { ring = seconds * 1000 } })
with_line settings LargeLine = Some (record settings { setup = record settings.setup { large = true } })
with_line settings (RealmLine realm algorithms) = Some (record settings { realm = Some (record { text = realm; algorithms = algorithms_or_md5 algorithms }) })
with_line settings (ExpiresLine times) = Some (record settings { expirations = times })
with_line settings StrangersLine = Some (record settings { strangers = true })
with_line settings (TrustLine net) = Some (record settings { nets = settings.nets ++ net ∷ [] })
with_line settings (GatewayLine q uri) = option_map (λ gateways. record settings { gateways = gateways }) (with_gateway settings.setup.streams settings.gateways q uri)
with_line settings (LocationLine user q uri seconds) = with_location settings user q uri seconds
with_line settings (CommentLine text) = Some settings

-- ---- the setup of a proxy that has a realm

-- credentials for the realm do not go on with a request (section 22.3), and the requests within a dialog come this way, too (section 16.6
-- step 4)
abbrev pub in_realm : Option (List ℕ) → Setup → Setup
in_realm None setup = setup
in_realm (Some name) setup = record setup { realm = Some name; records = true }

abbrev pub realm_name : Realm → List ℕ
realm_name realm = realm.text

abbrev pub of_own_realm : Settings → Settings
of_own_realm settings = record settings { setup = in_realm (option_map realm_name settings.realm) settings.setup }
