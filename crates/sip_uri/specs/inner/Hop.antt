-- Where a request to a URI is sent (RFC 3261 section 19.1.1, over UDP or TCP and IPv4 alone).
-- Here: what no public contract reaches.
use Rattle.std.specs.Prelude.{Option}
use Rattle.sip_uri.specs.declared.hop.Hop.{Hop}
use Rattle.sip_lex.specs.Pieces.{pieces_behind}
use Rattle.sip_uri.specs.Host.{address_of}
use Rattle.sip_uri.specs.Reading.{Parts}
use Rattle.sip_uri.specs.Hop.{by_transport, port_number, hop_at}

-- the same of the parts of a text
abbrev pub parts_hop : Parts → Option Hop
parts_hop p = hop_at (by_transport (pieces_behind 59 p.params)) (address_of p.host) (port_number p.port)
