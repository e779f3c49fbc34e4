-- Cutting a Via value into its parts, and whether they are such (RFC 3261 sections 20.42 and 25.1).
use Rattle.std.specs.Prelude.{ℕ, Bool, true, false, ◌&&◌, ◌||◌, not, List, [], ◌∷◌, length, take, drop, Option, Some, None, Result, Ok, Err, nat_lt, ◌==◌, if◌then◌else◌, codes}
use Rattle.std.specs.List.{list_all}
use Rattle.std.specs.Str.{bytes_eq, str_to_ascii_lowercase}
use Rattle.sip_lex.specs.declared.sheltered.Shelter.TheVariants.{Quotes}
use Rattle.sip_lex.specs.Bytes.{is_space, is_token, trim, trim_end, trim_start}
use Rattle.sip_lex.specs.Cut.{cut, is}
use Rattle.sip_lex.specs.Number.{number_within}
use Rattle.sip_lex.specs.Outside.{pieces_outside_behind}
pub use Rattle.sip_lex.specs.Params.{is_named, name_of, value_of}
use Rattle.sip_lex.specs.Quoted.{quoted_at}
pub use Rattle.sip_text.specs.Fields.{is_number}
use Rattle.sip_uri.specs.Host.{host_len, is_host, port_of}
pub use Rattle.sip_uri.specs.Reading.{is_port_if_any}
use Rattle.sip_via.specs.declared.own.ViaFault.{ViaFault}
use Rattle.sip_via.specs.declared.own.ViaFault.TheVariants.{BadVia}

-- the parts of a value, without the space round them
pub record ViaText : Type 0 where
  pub transport : List ℕ
  -- who sent it
  pub host : List ℕ
  -- the digits of the port
  pub port : Option (List ℕ)
  -- what stands behind each `;`, with the space round it
  pub params : List (List ℕ)

-- ---- parameters

-- neither space nor `,`, `;` and `"`
abbrev pub is_value_byte : ℕ → Bool
is_value_byte b = not (is_space b) && not (b == 44) && not (b == 59) && not (b == 34)

-- one or more of these
abbrev pub is_plain_value : List ℕ → Bool
is_plain_value value = nat_lt 0 (length value) && list_all is_value_byte value

abbrev pub is_whole : Option (List ℕ × List ℕ) → Bool
is_whole None = false
is_whole (Some (inside, [])) = true
is_whole (Some (inside, b ∷ rest)) = false

-- or one quoted text
abbrev pub is_value : List ℕ → Bool
is_value value = is_plain_value value || is_whole (quoted_at value)

abbrev pub is_value_if_any : Option (List ℕ) → Bool
is_value_if_any None = true
is_value_if_any (Some value) = is_value value

abbrev pub is_param : List ℕ → Bool
is_param param = is_token (name_of param) && is_value_if_any (value_of param)

-- the value of the first parameter of that name, if it has one
abbrev pub first_named : List ℕ → List (List ℕ) → Option (List ℕ)
first_named name [] = None
first_named name (param ∷ params) = if is_named name param then value_of param else first_named name params

-- what stands between the `;` outside quotes, behind the first one
abbrev pub params_of : Option (List ℕ) → List (List ℕ)
params_of text = pieces_outside_behind Quotes 59 text

-- ---- the parts of any text

pub record Parts : Type 0 where
  pub protocol : List ℕ
  pub version : List ℕ
  pub transport : List ℕ
  pub host : List ℕ
  pub port : Option (List ℕ)
  pub params : Option (List ℕ)

abbrev pub or_empty : Option (List ℕ) → List ℕ
or_empty None = []
or_empty (Some text) = text

-- the port and the parameters in what stands behind the host; what no mark begins counts as a port
abbrev pub port_and_params : List ℕ → Option (List ℕ) × Option (List ℕ)
port_and_params [] = (None, None)
port_and_params (b ∷ bs) =
    if b == 58 then (Some (trim (cut (is 59) bs).0), (cut (is 59) bs).1)
    else (if b == 59 then (None, Some bs)
    else (Some [], None))

-- a protocol, `/`, its version, `/`, the transport, space, the host up to `:`, `;` or the end
unfoldable pub parts_of : List ℕ → Parts
parts_of text =
    let first = cut (is 47) text in
    let second = cut (is 47) (or_empty first.1) in
    let third = cut is_space (trim_start (or_empty second.1)) in
    let sent = trim_start (or_empty third.1) in
    let tail = port_and_params (drop (host_len false sent) sent) in
    record { protocol = trim_end first.0; version = trim second.0; transport = third.0; host = trim_end (take (host_len false sent) sent); port = tail.0; params = tail.1 }

unfoldable pub are_parts : Parts → Bool
are_parts p =
    bytes_eq (str_to_ascii_lowercase p.protocol) (codes "sip")
    && bytes_eq p.version (codes "2.0")
    && is_token p.transport
    && is_host p.host
    && is_port_if_any p.port
    && list_all is_param (params_of p.params)

-- no space stands at its ends
abbrev pub is_trimmed : List ℕ → Bool
is_trimmed text = bytes_eq (trim text) text

abbrev pub is_via : List ℕ → Bool
is_via text = is_trimmed text && are_parts (parts_of text)

abbrev pub via_of_parts : Parts → ViaText
via_of_parts p = record { transport = p.transport; host = p.host; port = p.port; params = params_of p.params }

abbrev pub via_of : List ℕ → ViaText
via_of text = via_of_parts (parts_of text)

-- what a text is as a Via value
abbrev pub read_via : List ℕ → Result ViaText ViaFault
read_via text = if is_via text then Ok (via_of text) else Err BadVia

-- ---- what a value says

abbrev pub port_if_any : Option (List ℕ) → Option ℕ
port_if_any None = None
port_if_any (Some digits) = port_of digits

abbrev pub branch_of : ViaText → Option (List ℕ)
branch_of v = first_named (codes "branch") v.params

-- a parameter `rport` with this number
abbrev pub number_if_any : Option (List ℕ) → Option ℕ
number_if_any None = None
number_if_any (Some digits) = number_within 65535 digits

abbrev pub is_rport : ℕ → List ℕ → Bool
is_rport port param = is_named (codes "rport") param && is_number port (number_if_any (value_of param))
