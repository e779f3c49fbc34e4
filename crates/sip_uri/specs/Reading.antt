-- Cutting a text into the parts of a URI, and its first fault.
use Rattle.std.specs.Prelude.{ℕ, Bool, true, false, ◌&&◌, not, List, [], ◌∷◌, length, take, drop, Option, Some, None, Result, Ok, Err, nat_lt, ◌==◌, if◌then◌else◌, codes}
use Rattle.std.specs.List.{list_all}
use Rattle.std.specs.Str.{bytes_eq, str_to_ascii_lowercase}
use Rattle.sip_uri.specs.declared.fault.UriFault.{UriFault}
use Rattle.sip_uri.specs.declared.fault.UriFault.TheVariants.{NotSip, BadHost, BadPort, BadText}
use Rattle.sip_lex.specs.Cut.{cut, is}
use Rattle.sip_lex.specs.Pieces.{pieces_behind}
use Rattle.sip_uri.specs.Grammar.{is_uri_byte}
use Rattle.sip_uri.specs.Host.{host_len, is_host, is_port}
use Rattle.sip_uri.specs.Uri.{Uri}

-- ---- the parts of any text behind its scheme

pub record Parts : Type 0 where
  pub user : Option (List ℕ)
  pub host : List ℕ
  pub port : Option (List ℕ)
  pub params : Option (List ℕ)
  pub headers : Option (List ℕ)

-- the user, and what stands behind it
abbrev pub user_of : List ℕ × Option (List ℕ) → Option (List ℕ) × List ℕ
user_of (all, None) = (None, all)
user_of (user, Some rest) = (Some user, rest)

-- the port and the parameters in what stands between the host and the headers
abbrev pub port_and_params : List ℕ → Option (List ℕ) × Option (List ℕ)
port_and_params [] = (None, None)
port_and_params (b ∷ bs) = if b == 58 then (Some (cut (is 59) bs).0, (cut (is 59) bs).1) else (None, Some bs)

-- the first `@` ends the user, the host ends at its mark, the first `?` begins the headers
unfoldable pub parts_of : List ℕ → Parts
parts_of body =
    let user = user_of (cut (is 64) body) in
    let n = host_len false user.1 in
    let tail = cut (is 63) (drop n user.1) in
    let port = port_and_params tail.0 in
    record { user = user.0; host = take n user.1; port = port.0; params = port.1; headers = tail.1 }

abbrev pub uri_of : List ℕ → Uri
uri_of text =
    let p = parts_of (drop 4 text) in
    record { scheme = take 4 text; user = p.user; host = p.host; port = p.port; params = pieces_behind 59 p.params; headers = p.headers }

-- ---- the tests, in their order

abbrev pub is_sip : List ℕ → Bool
is_sip text = bytes_eq (str_to_ascii_lowercase (take 4 text)) (codes "sip:")

abbrev pub is_full : Option (List ℕ) → Bool
is_full None = true
is_full (Some bs) = nat_lt 0 (length bs)

-- a name, or a name, `=` and a value, neither of them empty
abbrev pub is_param : List ℕ → Bool
is_param param = nat_lt 0 (length (cut (is 61) param).0) && is_full (cut (is 61) param).1

abbrev pub is_port_if_any : Option (List ℕ) → Bool
is_port_if_any None = true
is_port_if_any (Some digits) = is_port digits

-- the first fault of the parts
unfoldable pub fault_of : Parts → Option UriFault
fault_of p =
    if not (is_host p.host) then Some BadHost
    else (if not (is_port_if_any p.port) then Some BadPort
    else (if not (is_full p.user && list_all is_param (pieces_behind 59 p.params)) then Some BadText
    else None))

abbrev pub or_fault : {A : Type 0} → Option UriFault → A → Result A UriFault
or_fault None x = Ok x
or_fault (Some f) x = Err f

-- the URI that a text spells, or its first fault
unfoldable pub read_uri : List ℕ → Result Uri UriFault
read_uri text =
    if not (is_sip text) then Err NotSip
    else (if not (list_all is_uri_byte text) then Err BadText
    else or_fault (fault_of (parts_of (drop 4 text))) (uri_of text))
