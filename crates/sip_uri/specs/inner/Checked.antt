-- Reading in one go: the bytes of each part are tested with the part.
use Rattle.std.specs.Prelude.{ℕ, Bool, true, ◌&&◌, not, List, Option, Some, None, Result, Err, drop, if◌then◌else◌}
use Rattle.std.specs.List.{list_all}
use Rattle.sip_lex.specs.Pieces.{pieces_behind}
use Rattle.sip_uri.specs.declared.fault.UriFault.{UriFault}
use Rattle.sip_uri.specs.declared.fault.UriFault.TheVariants.{NotSip, BadHost, BadPort, BadText}
use Rattle.sip_uri.specs.Grammar.{is_uri_byte}
use Rattle.sip_uri.specs.Host.{is_host}
use Rattle.sip_uri.specs.Reading.{Parts, is_full, is_param, is_port_if_any, is_sip, or_fault, parts_of, uri_of}
use Rattle.sip_uri.specs.Uri.{Uri}

abbrev pub are_bytes_if_any : Option (List ℕ) → Bool
are_bytes_if_any None = true
are_bytes_if_any (Some bs) = list_all is_uri_byte bs

abbrev pub is_user_if_any : Option (List ℕ) → Bool
is_user_if_any user = is_full user && are_bytes_if_any user

abbrev pub are_params_if_any : Option (List ℕ) → Bool
are_params_if_any params = list_all is_param (pieces_behind 59 params) && are_bytes_if_any params

abbrev pub are_texts : Parts → Bool
are_texts p = is_user_if_any p.user && are_params_if_any p.params && are_bytes_if_any p.headers

-- the first part with a fault
unfoldable pub part_fault : Parts → Option UriFault
part_fault p =
    if not (is_host p.host) then Some BadHost
    else (if not (is_port_if_any p.port) then Some BadPort
    else (if not (are_texts p) then Some BadText
    else None))

-- a byte that stands in no URI counts before any other fault
abbrev pub named_fault : List ℕ → Option UriFault → Option UriFault
named_fault text None = None
named_fault text (Some f) = if list_all is_uri_byte text then Some f else Some BadText

unfoldable pub checked_uri : List ℕ → Result Uri UriFault
checked_uri text =
    if not (is_sip text) then Err NotSip
    else or_fault (named_fault text (part_fault (parts_of (drop 4 text)))) (uri_of text)
