-- Marking where a request came from, and where its response goes (RFC 3261 section 18.2, RFC 3581
-- section 4).
use Rattle.std.specs.Prelude.{ℕ, ◌<◌, ◌^◌, Bool, ◌||◌, ◌&&◌, not, List, [], ◌∷◌, ◌++◌, length, drop, Option, Some, None, Result, Ok, Err, is_none, if◌then◌else◌, codes}
use Rattle.std.specs.Fmt.{decimal}
use Rattle.std.specs.List.{flat_map, list_any}
use Rattle.std.specs.Str.{bytes_eq}
use Rattle.sip_lex.specs.declared.sheltered.Shelter.TheVariants.{Quotes}
use Rattle.sip_lex.specs.declared.sheltered.ShelterState.TheVariants.{Plain}
use Rattle.sip_lex.specs.Bytes.{trim, trim_end}
use Rattle.sip_lex.specs.Cut.{behind}
use Rattle.sip_lex.specs.Sheltered.{cut_outside}
use Rattle.sip_text.specs.Name.{first_of}
use Rattle.sip_text.specs.Text.{MessageText}
use Rattle.sip_uri.specs.declared.hop.Hop.{Hop}
use Rattle.sip_uri.specs.declared.hop.Transport.{Transport}
use Rattle.sip_uri.specs.declared.hop.Transport.TheVariants.{Udp, Tcp, Back}
use Rattle.sip_via.specs.declared.own.ViaFault.{ViaFault}
use Rattle.sip_via.specs.declared.own.ViaFault.TheVariants.{BadVia}
use Rattle.sip_via.specs.Address.{IsAddress, address_text}
use Rattle.sip_via.specs.Edits.{replaced, with_headers}
use Rattle.sip_via.specs.TopVia.{via_lines}
use Rattle.sip_via.specs.ViaParts.{ViaText, is_named, is_rport, is_via, or_empty, params_of, port_if_any, value_of, via_of}

-- an address and a port of numbers that 64 bits hold
pub record IsSource (source : Hop) : Type 0 where
  pub address : IsAddress source.addr
  pub port : source.port < 2 ^ 64

-- ---- the top value

-- `rport` without a value
abbrev pub asks_port : List ℕ → Bool
asks_port param = is_named (codes "rport") param && is_none (value_of param)

-- the value stands right behind the name
abbrev pub filled : ℕ → List ℕ → List ℕ
filled port param = trim_end param ++ (61 ∷ (decimal port ++ drop (length (trim_end param)) param))

-- a `received` is dropped, and an `rport` without a value gets the port
abbrev pub marked_param : ℕ → List ℕ → List ℕ
marked_param port param =
    if is_named (codes "received") param then []
    else 59 ∷ (if asks_port param then filled port param else param)

-- where `rport` asks for it, or the host is another text than the address
abbrev pub gets_received : List ℕ → List ℕ → List (List ℕ) → Bool
gets_received address host params = list_any asks_port params || not (bytes_eq host address)

abbrev pub received_text : List ℕ → List ℕ → List (List ℕ) → List ℕ
received_text address host params = if gets_received address host params then codes ";received=" ++ address else []

abbrev pub marked_parts : Hop → List ℕ → List ℕ × Option (List ℕ) → List ℕ
marked_parts source host (front, params) = trim_end (front ++ (flat_map (marked_param source.port) (params_of params) ++ received_text (address_text source.addr) host (params_of params)))

abbrev pub marked_value : Hop → List ℕ → List ℕ
marked_value source value = marked_parts source (via_of value).host (cut_outside Quotes 59 Plain value)

-- ---- the line that holds it, and the message

-- the space before the comma stays
abbrev pub marked_line : Hop → List ℕ × Option (List ℕ) → List ℕ
marked_line source (top, others) = marked_value source (trim top) ++ (drop (length (trim_end top)) top ++ behind 44 others)

abbrev pub with_via_line : MessageText → List ℕ → MessageText
with_via_line m value = with_headers m (replaced (codes "via") (Some value) m.headers)

abbrev pub line_marked_at : Hop → List ℕ × Option (List ℕ) → Result (List ℕ) ViaFault
line_marked_at source c = if is_via (trim c.0) then Ok (marked_line source c) else Err BadVia

-- the line with its first value marked; the others stay as they are
abbrev pub line_marked : Hop → List ℕ → Result (List ℕ) ViaFault
line_marked source line = line_marked_at source (cut_outside Quotes 44 Plain line)

abbrev pub marked_with : MessageText → Result (List ℕ) ViaFault → Result MessageText ViaFault
marked_with m (Ok line) = Ok (with_via_line m line)
marked_with m (Err f) = Err f

abbrev pub first_via_line : MessageText → List ℕ
first_via_line m = or_empty (first_of (via_lines m))

-- the first Via line is marked
abbrev pub marked : MessageText → Hop → Result MessageText ViaFault
marked m source = marked_with m (line_marked source (first_via_line m))

-- ---- where a response goes

abbrev pub port_or_default : Option ℕ → ℕ
port_or_default None = 5060
port_or_default (Some port) = port

-- over UDP to the source; to its port where `rport` says so, else to that of the sender
abbrev pub reply_by_datagram : ViaText → Hop → Hop
reply_by_datagram via source = record { addr = source.addr; port = if list_any (is_rport source.port) via.params then source.port else port_or_default (port_if_any via.port); transport = Udp }

-- over TCP by the connection that the request came by; where that is gone, by one to the port of the sender
abbrev pub reply_by_connection : ViaText → Hop → Hop
reply_by_connection via source = record source { transport = Back (port_or_default (port_if_any via.port)) }

abbrev pub reply_over : Transport → ViaText → Hop → Hop
reply_over Udp via source = reply_by_datagram via source
reply_over Tcp via source = reply_by_connection via source
reply_over (Back port) via source = reply_by_connection via source

abbrev pub reply_of : ViaText → Hop → Hop
reply_of via source = reply_over source.transport via source
