-- What the lines of a text add to a setup, one after another.
use Rattle.std.specs.Prelude.{◌&&◌, ℕ, not, nat_lt, Bool, false, List, [], ◌∷◌, ◌++◌, length, Option, Some, None, Result, Ok, Err, option_and_then, if◌then◌else◌}
use Rattle.std.specs.Option.{option_map}
use Rattle.std.specs.List.{list_any}
use Rattle.fork_model.specs.Table.{most_targets}
use Rattle.fork_rank.specs.RuleLines.{usual_rules}
use Rattle.sip_uri.specs.Reading.{read_uri}
use Rattle.sip_uri.specs.Uri.{Uri}
use Rattle.sip_uri.specs.declared.fault.UriFault.{UriFault}
use Rattle.sip_uri.specs.declared.hop.Transport.TheVariants.{Udp}
use Rattle.proxy_config.specs.Line.{Line, OwnLine, InstanceLine, DomainLine, PreferLine, DepthLine, LocationLine}
use Rattle.proxy_config.specs.Setup.{Setup, Location, is_reached_by, is_same, locations_of, next_hop, usual_longest}

-- the URI that a text spells, if it does
abbrev pub uri_if : Result Uri UriFault → Option Uri
uri_if (Ok uri) = Some uri
uri_if (Err fault) = None

-- a request can be sent there, its user has not got this target yet, nor as many locations as may be tried
abbrev pub may_follow : (streams : Bool) → List Location → Location → Bool
may_follow streams earlier location =
    is_reached_by streams (next_hop location)
    && not (list_any (is_same location) earlier)
    && nat_lt (length (locations_of location.user earlier)) most_targets

abbrev pub added : (streams : Bool) → List Location → Location → Option (List Location)
added streams locations location = if may_follow streams locations location then Some (locations ++ location ∷ []) else None

-- what a line makes of its user, its q, its URI and its longest time
abbrev pub as_read : List ℕ → ℕ → ℕ → Uri → Location
as_read user q longest uri = record { user = user; q = q; uri = uri; hop = None; longest = longest }

-- one that is reached over TCP only where the proxy has connections
abbrev pub with_location : (streams : Bool) → List Location → List ℕ → ℕ → List ℕ → ℕ → Option (List Location)
with_location streams locations user q text longest =
    option_and_then (λ uri. added streams locations (as_read user q longest uri)) (uri_if (read_uri text))

-- what a line adds
abbrev pub with_line : Setup → Line → Option Setup
with_line setup (OwnLine own) = Some (record setup { own = own })
with_line setup (InstanceLine instance) = Some (record setup { instance = instance })
with_line setup (DomainLine host) = Some (record setup { domain = host })
with_line setup (PreferLine statuses) = Some (record setup { rules = record setup.rules { preferred = statuses } })
with_line setup (DepthLine depth) = Some (record setup { rules = record setup.rules { depth = depth } })
with_line setup (LocationLine user q uri) =
    option_map (λ locations. record setup { locations = locations }) (with_location setup.streams setup.locations user q uri usual_longest)

-- before the first line
abbrev pub no_setup : Setup
no_setup = record {
  own = record { addr = 0 ∷ 0 ∷ 0 ∷ 0 ∷ []; port = 0; transport = Udp };
  instance = 0;
  domain = [];
  rules = usual_rules;
  locations = [];
  by_port = false;
  for_service = false;
  ring = usual_longest;
  records = false;
  stamps = false;
  reasons = false;
  streams = false;
  large = false;
  ways = [];
  realm = None;
  token = None;
  route = None;
}
