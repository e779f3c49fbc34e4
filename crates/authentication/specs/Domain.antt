-- The URIs that a proxy is responsible for (RFC 3261 section 16.5).
use Rattle.std.specs.Prelude.{ℕ, Bool, true, not, ◌==◌, ◌&&◌, ◌||◌, Option, Some, None, if◌then◌else◌}
use Rattle.std.specs.Str.{bytes_eq, str_to_ascii_lowercase}
use Rattle.sip_uri.specs.declared.hop.Hop.{Hop}
use Rattle.sip_uri.specs.declared.hop.Transport.{Transport}
use Rattle.sip_uri.specs.declared.hop.Transport.TheVariants.{Udp, Tcp, Back}
use Rattle.sip_uri.specs.Hop.{hop_of}
use Rattle.sip_uri.specs.Uri.{Uri}
use Rattle.sip_via.specs.Address.{address_text}
use Rattle.sip_via.specs.declared.own.Own.{Own}
use Rattle.authentication.specs.declared.domain.Domain.{Domain}

-- over TCP only where the proxy has streams
abbrev pub is_reached : (streams : Bool) → Transport → Bool
is_reached streams Udp = true
is_reached streams Tcp = streams
is_reached streams (Back sent_by) = streams

abbrev pub reachable : (streams : Bool) → Option Hop → Option Hop
reachable streams None = None
reachable streams (Some hop) = if is_reached streams hop.transport then Some hop else None

-- a URI without a hop leads to no other port
abbrev pub is_own_port : Own → Option Hop → Bool
is_own_port own None = true
is_own_port own (Some hop) = hop.port == own.port

-- the own address for its host, as it is written; where the port counts it leads to no other port of that address
abbrev pub is_own : Domain → Uri → Bool
is_own domain uri = bytes_eq uri.host (address_text domain.own.addr) && (not domain.by_port || is_own_port domain.own (reachable domain.streams (hop_of uri)))

-- its host is the domain's, in any case, or it names the proxy by its own address
abbrev pub is_of_domain : Domain → Uri → Bool
is_of_domain domain uri = bytes_eq (str_to_ascii_lowercase uri.host) (str_to_ascii_lowercase domain.name.now) || is_own domain uri
