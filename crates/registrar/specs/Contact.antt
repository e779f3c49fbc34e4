-- What a contact of a REGISTER request asks for (RFC 3261 sections 10.2.1 and 10.3, RFC 5626 section 4).
use Rattle.std.specs.Prelude.{ℕ, ◌-◌, Bool, ◌&&◌, ◌||◌, not, List, ◌++◌, filter, length, take, Option, Some, None, option_and_then, Result, Ok, Err, codes, nat_le, if◌then◌else◌}
use Rattle.std.specs.List.{list_all}
use Rattle.std.specs.Option.{option_map}
use Rattle.std.specs.Str.{bytes_eq}
use Rattle.sip_lex.specs.Bytes.{trim}
use Rattle.sip_lex.specs.Cut.{cut, is}
use Rattle.sip_lex.specs.Params.{value_of, is_named}
use Rattle.sip_uri.specs.declared.fault.UriFault.{UriFault}
use Rattle.sip_uri.specs.declared.hop.Hop.{Hop}
use Rattle.sip_uri.specs.declared.hop.Transport.{Transport}
use Rattle.sip_uri.specs.declared.hop.Transport.TheVariants.{Udp, Tcp}
use Rattle.sip_uri.specs.Contact.{Form, contact_params, form_of, is_contact_param, q_of}
use Rattle.sip_uri.specs.Hop.{is_word}
use Rattle.sip_uri.specs.Key.{key_of}
use Rattle.sip_uri.specs.Reading.{read_uri, uri_of}
use Rattle.sip_uri.specs.Uri.{Uri, is_named as is_uri_param, params_text}
use Rattle.sip_via.specs.Address.{address_text}
use Rattle.authentication.specs.Form.{param_named}
use Rattle.authentication.specs.Tail.{port_of_uri}
use Rattle.bindings.specs.Bindings.{Asked}
use Rattle.registrar.specs.declared.expirations.AskedExpirations.{AskedExpirations}
use Rattle.registrar.specs.Expirations.{time_by}

-- what counts beside the contact itself
pub record Terms : Type 0 where
  -- where the request came from
  pub source : Hop
  -- the proxy has streams
  pub streams : Bool
  pub expirations : AskedExpirations
  -- the value of Expires
  pub expires : Option (List ℕ)

-- ---- the item without its `expires` parameters

abbrev pub is_expires : List ℕ → Bool
is_expires param = is_named (codes "expires") param

abbrev pub is_kept : List ℕ → Bool
is_kept param = not (is_expires param)

-- what stands before the first `;` of the parameters
abbrev pub front_of : List ℕ → Option (List ℕ) → List ℕ
front_of item None = item
front_of item (Some params) = take (length item - length params - 1) item

abbrev pub kept_text : Option (List ℕ) → List ℕ
kept_text params = params_text (filter is_kept (contact_params params))

abbrev pub shown_item : List ℕ → Option (List ℕ) → List ℕ
shown_item item params = trim (front_of item params ++ kept_text params)

-- ---- how a request reaches it

-- a parameter that asks for this transport, or for none
abbrev pub is_over : Transport → List ℕ → Bool
is_over transport param = not (is_uri_param (codes "transport") param) || is_word transport (cut (is 61) param).1

-- the transport that the URI asks for, UDP where it asks for none, where the proxy has it
abbrev pub transport_of : (streams : Bool) → List (List ℕ) → Option Transport
transport_of streams params = if list_all (is_over Udp) params then Some Udp else (if streams && list_all (is_over Tcp) params then Some Tcp else None)

-- where the request came from; at the port of the URI, and over its transport, where its host is that address
abbrev pub hop_from : Hop → List ℕ → Uri → Transport → Hop
hop_from source address uri transport =
    if bytes_eq uri.host (address_text source.addr) then record { addr = source.addr; port = port_of_uri address; transport = transport } else source

-- ---- the whole

-- the value of the first parameter of this name, if it has one
abbrev pub value_named : List ℕ → Option (List ℕ) → Option (List ℕ)
value_named name params = option_and_then value_of (param_named name (contact_params params))

abbrev pub time_of : Terms → Option (List ℕ) → ℕ
time_of terms params = time_by terms.expirations (option_map value_of (param_named (codes "expires") (contact_params params))) terms.expires

abbrev pub asked_at : Terms → (item address : List ℕ) → (params : Option (List ℕ)) → Uri → Transport → Asked
asked_at terms item address params uri transport = record {
  contact = record {
    item = shown_item item params;
    uri = address;
    key = key_of uri;
    q = q_of (contact_params params);
    instance = value_named (codes "+sip.instance") params;
    reg_id = value_named (codes "reg-id") params;
    hop = hop_from terms.source address uri transport;
  };
  time = time_of terms params;
}

abbrev pub asked_over : Terms → (item address : List ℕ) → (params : Option (List ℕ)) → Uri → Option Transport → Option Asked
asked_over terms item address params uri None = None
asked_over terms item address params uri (Some transport) = Some (asked_at terms item address params uri transport)

abbrev pub asked_if_read : Terms → (item address : List ℕ) → (params : Option (List ℕ)) → Result Uri UriFault → Option Asked
asked_if_read terms item address params (Err fault) = None
asked_if_read terms item address params (Ok uri) = asked_over terms item address params uri (transport_of terms.streams (uri_of address).params)

abbrev pub most_bytes : ℕ
most_bytes = 1024

abbrev pub asked_of_form : Terms → List ℕ → Option Form → Option Asked
asked_of_form terms item None = None
asked_of_form terms item (Some (address, params)) =
    if list_all is_contact_param (contact_params params) then asked_if_read terms item address params (read_uri address) else None

-- nothing where the item is too long, has not the form of a contact, has no SIP URI, or asks for a transport that the proxy has not
abbrev pub asked_of : Terms → List ℕ → Option Asked
asked_of terms item = if nat_le (length item) most_bytes then asked_of_form terms item (form_of item) else None
