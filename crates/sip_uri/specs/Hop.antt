-- Where a request to a URI is sent (RFC 3261 section 19.1.1, over UDP or TCP and IPv4 alone).
use Rattle.std.specs.Prelude.{ℕ, Bool, false, ◌||◌, ◌&&◌, not, List, Option, Some, None, Result, Ok, Err, codes, if◌then◌else◌}
use Rattle.std.specs.List.{list_all}
use Rattle.std.specs.Str.{bytes_eq, str_to_ascii_lowercase}
use Rattle.sip_uri.specs.declared.fault.UriFault.{UriFault}
use Rattle.sip_uri.specs.declared.hop.Hop.{Hop}
use Rattle.sip_uri.specs.declared.hop.Transport.{Transport}
use Rattle.sip_uri.specs.declared.hop.Transport.TheVariants.{Udp, Tcp, Back}
use Rattle.sip_lex.specs.Cut.{cut, is}
use Rattle.sip_lex.specs.Number.{number}
use Rattle.sip_uri.specs.Host.{address_of}
use Rattle.sip_uri.specs.Uri.{Uri, is_named}

abbrev pub word_of : Transport → List ℕ
word_of Udp = codes "udp"
word_of Tcp = codes "tcp"
word_of (Back sent_by) = codes "tcp"

abbrev pub is_word : Transport → Option (List ℕ) → Bool
is_word transport None = false
is_word transport (Some value) = bytes_eq (str_to_ascii_lowercase value) (word_of transport)

-- no `maddr`, and each `transport` is this one
abbrev pub allows : Transport → List ℕ → Bool
allows transport param = not (is_named (codes "maddr") param) && (not (is_named (codes "transport") param) || is_word transport (cut (is 61) param).1)

-- UDP, unless the parameters ask for TCP
abbrev pub by_transport : List (List ℕ) → Option Transport
by_transport params = if list_all (allows Udp) params then Some Udp else (if list_all (allows Tcp) params then Some Tcp else None)

-- the port's number, or the default of SIP over both
abbrev pub port_number : Option (List ℕ) → ℕ
port_number None = 5060
port_number (Some digits) = number digits

abbrev pub hop_at : Option Transport → Option (List ℕ) → ℕ → Option Hop
hop_at None addr port = None
hop_at (Some transport) None port = None
hop_at (Some transport) (Some addr) port = Some (record { addr = addr; port = port; transport = transport })

-- the host is an IPv4 address, and the parameters allow UDP or TCP
abbrev pub hop_of : Uri → Option Hop
hop_of u = hop_at (by_transport u.params) (address_of u.host) (port_number u.port)

-- where a request to a URI is sent, if a text spells one
abbrev pub hop_if_read : Result Uri UriFault → Option Hop
hop_if_read (Ok u) = hop_of u
hop_if_read (Err f) = None
