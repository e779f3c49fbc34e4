-- Where a response goes, by the top Via value of its request as it came (RFC 3261 section 18.2.2, RFC 3581 section 4).
use Rattle.std.specs.Prelude.{ℕ, Bool, ◌||◌, List, if◌then◌else◌}
use Rattle.std.specs.List.{list_any}
use Rattle.sip_uri.specs.declared.hop.Hop.{Hop}
use Rattle.sip_uri.specs.declared.hop.Transport.{Transport}
use Rattle.sip_uri.specs.declared.hop.Transport.TheVariants.{Udp, Tcp, Back}
use Rattle.sip_via.specs.Received.{asks_port, port_or_default, reply_by_connection}
use Rattle.sip_via.specs.ViaParts.{ViaText, is_rport, port_if_any}

-- a parameter that is `rport` with this port, or without a value, which marking puts in
abbrev pub gives_port : ℕ → List ℕ → Bool
gives_port port param = asks_port param || is_rport port param

abbrev pub datagram_unmarked : ViaText → Hop → Hop
datagram_unmarked via source = record { addr = source.addr; port = if list_any (gives_port source.port) via.params then source.port else port_or_default (port_if_any via.port); transport = Udp }

abbrev pub reply_unmarked_over : Transport → ViaText → Hop → Hop
reply_unmarked_over Udp via source = datagram_unmarked via source
reply_unmarked_over Tcp via source = reply_by_connection via source
reply_unmarked_over (Back port) via source = reply_by_connection via source

abbrev pub reply_unmarked : ViaText → Hop → Hop
reply_unmarked via source = reply_unmarked_over source.transport via source
