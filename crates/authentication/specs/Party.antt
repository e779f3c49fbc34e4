-- The URIs in From and To (RFC 3261 sections 20.20 and 20.39), and whom they name.
use Rattle.std.specs.Prelude.{ℕ, Bool, List, Option, Some, None, Result, Ok, Err, codes}
use Rattle.std.specs.Str.{bytes_eq, str_to_ascii_lowercase}
use Rattle.sip_text.specs.Name.{first_value}
use Rattle.sip_text.specs.Text.{MessageText}
use Rattle.sip_uri.specs.declared.fault.UriFault.{UriFault}
use Rattle.sip_uri.specs.Contact.{Form, form_of}
use Rattle.sip_uri.specs.Reading.{read_uri}
use Rattle.sip_uri.specs.Uri.{Uri}
use Rattle.sip_via.specs.ViaParts.{or_empty}

abbrev pub uri_if_read : Result Uri UriFault → Option Uri
uri_if_read (Ok uri) = Some uri
uri_if_read (Err fault) = None

abbrev pub uri_at : Option Form → Option Uri
uri_at None = None
uri_at (Some form) = uri_if_read (read_uri form.0)

-- the SIP URI of a value, `name-addr` or `addr-spec`
abbrev pub party_uri : List ℕ → Option Uri
party_uri value = uri_at (form_of value)

-- that of the first header line of that name
abbrev pub uri_in : List ℕ → MessageText → Option Uri
uri_in name m = party_uri (or_empty (first_value name m.headers))

-- it is that of one who does not say who he is (RFC 3323 section 4.1)
abbrev pub is_anonymous : Uri → Bool
is_anonymous uri = bytes_eq (str_to_ascii_lowercase uri.host) (codes "anonymous.invalid")
