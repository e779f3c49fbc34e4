-- The items of a Contact value (RFC 3261 sections 20.10 and 25.1).
use Rattle.std.specs.Prelude.{ℕ, ◌+◌, ◌-◌, ◌*◌, Bool, ◌||◌, ◌&&◌, not, List, [], ◌∷◌, length, map, Option, Some, None, Result, Ok, Err, is_some, nat_lt, nat_le, ◌==◌, if◌then◌else◌, codes}
use Rattle.std.specs.Borrow.{Bor}
use Rattle.std.specs.Char.{is_ascii_digit}
use Rattle.std.specs.List.{list_all}
use Rattle.std.specs.Option.{option_copied}
use Rattle.std.specs.Str.{bytes_eq, str_to_ascii_lowercase}
use Rattle.sip_lex.specs.declared.sheltered.Shelter.TheVariants.{Quotes, QuotesAndAngles}
use Rattle.sip_lex.specs.declared.sheltered.ShelterState.TheVariants.{Plain}
use Rattle.sip_lex.specs.Bytes.{is_space, trim, trim_end, trim_start}
use Rattle.sip_lex.specs.Cut.{cut, is}
use Rattle.sip_lex.specs.Outside.{pieces_outside_behind}
pub use Rattle.sip_lex.specs.Params.{name_of, value_of}
use Rattle.sip_lex.specs.Sheltered.{cut_outside, is_closed}
use Rattle.sip_uri.specs.declared.fault.UriFault.{UriFault}
use Rattle.sip_uri.specs.declared.fault.UriFault.TheVariants.{BadText}
use Rattle.sip_uri.specs.Hop.{hop_of}
use Rattle.sip_uri.specs.Reading.{is_full, read_uri}
use Rattle.sip_uri.specs.Uri.{Uri}

pub record ContactText : Type 0 where
  -- the whole item
  pub text : List ℕ
  -- in thousandths
  pub q : ℕ
  -- where a request may be sent there
  pub uri : Option Uri

-- ---- q, `0` with up to three decimals; `1` and all else counts as 1000

abbrev pub thousandths : ℕ → ℕ → ℕ → ℕ
thousandths a b c = 100 * (a - 48) + 10 * (b - 48) + (c - 48)

abbrev pub q_decimals : List ℕ → ℕ
q_decimals [] = 0
q_decimals (a ∷ []) = thousandths a 48 48
q_decimals (a ∷ b ∷ []) = thousandths a b 48
q_decimals (a ∷ b ∷ c ∷ more) = thousandths a b c

abbrev pub are_decimals : List ℕ → Bool
are_decimals ds = nat_le (length ds) 3 && list_all is_ascii_digit ds

abbrev pub q_value : List ℕ → ℕ
q_value [] = 1000
q_value (a ∷ []) = if a == 48 then 0 else 1000
q_value (a ∷ dot ∷ ds) = if a == 48 && dot == 46 && are_decimals ds then q_decimals ds else 1000

abbrev pub q_value_if_any : Option (List ℕ) → ℕ
q_value_if_any None = 1000
q_value_if_any (Some value) = q_value value

-- ---- parameters

-- neither name nor value is empty
abbrev pub is_contact_param : List ℕ → Bool
is_contact_param param = nat_lt 0 (length (name_of param)) && is_full (value_of param)

abbrev pub is_q : List ℕ → Bool
is_q param = bytes_eq (str_to_ascii_lowercase (name_of param)) (codes "q")

-- the first parameter `q` decides
abbrev pub q_of : List (List ℕ) → ℕ
q_of [] = 1000
q_of (param ∷ params) = if is_q param then q_value_if_any (value_of param) else q_of params

abbrev pub contact_params : Option (List ℕ) → List (List ℕ)
contact_params text = pieces_outside_behind QuotesAndAngles 59 text

-- ---- the address and the text of the parameters; whether the address is a URI is not asked here

abbrev pub Form : Type 0
Form = List ℕ × Option (List ℕ)

-- behind the brackets stands nothing, or `;` and parameters
abbrev pub behind_brackets : List ℕ → List ℕ → Option Form
behind_brackets address [] = Some (address, None)
behind_brackets address (b ∷ params) = if b == 59 then Some (address, Some params) else None

-- the first `>` ends the address, whatever that says
abbrev pub bracketed_form : List ℕ × Option (List ℕ) → Option Form
bracketed_form (address, None) = None
bracketed_form (address, Some rest) = behind_brackets address (trim_start rest)

-- neither `;`, `,`, `?` nor space
abbrev pub is_bare_byte : ℕ → Bool
is_bare_byte b = not (b == 59 || b == 44 || b == 63 || is_space b)

-- one or more of these
abbrev pub is_bare : List ℕ → Bool
is_bare address = nat_lt 0 (length address) && list_all is_bare_byte address

-- the first `;` ends the address
abbrev pub bare_form : List ℕ × Option (List ℕ) → Option Form
bare_form (front, params) = if is_bare (trim_end front) then Some (trim_end front, params) else None

-- a display part, `<`, the address, `>`, parameters; or the address alone, parameters
abbrev pub form_behind : List ℕ → Option (List ℕ) → Option Form
form_behind item None = bare_form (cut (is 59) item)
form_behind item (Some inner) = bracketed_form (cut (is 62) inner)

abbrev pub form_of : List ℕ → Option Form
form_of item = form_behind item (cut_outside Quotes 60 Plain item).1

-- the same in memory, as lists
abbrev pub seen_form : Option (Bor (List ℕ) × Option (Bor (List ℕ))) → Option Form
seen_form None = None
seen_form (Some p) = Some (p.0.now, option_copied p.1)

-- ---- items

-- a SIP URI with a next hop
abbrev pub takeable : Result Uri UriFault → Option Uri
takeable (Ok u) = if is_some (hop_of u) then Some u else None
takeable (Err f) = None

abbrev pub contact_of_form : List ℕ → Option Form → ContactText
contact_of_form item None = record { text = item; q = 1000; uri = None }
contact_of_form item (Some form) =
    if list_all is_contact_param (contact_params form.1) then record { text = item; q = q_of (contact_params form.1); uri = takeable (read_uri form.0) }
    else record { text = item; q = 1000; uri = None }

abbrev pub contact_of : List ℕ → ContactText
contact_of item = contact_of_form item (form_of item)

-- what stands between commas outside quotes and brackets, trimmed
abbrev pub items_behind : Option (List ℕ) → List (List ℕ)
items_behind text = map trim (pieces_outside_behind QuotesAndAngles 44 text)

abbrev pub are_items : List (List ℕ) → Bool
are_items items = list_all (λ item. nat_lt 0 (length item)) items

-- each quote and bracket is closed, and no item is empty
unfoldable pub contacts_of : List ℕ → Result (List ContactText) UriFault
contacts_of value =
    if is_closed QuotesAndAngles value && are_items (items_behind (Some value)) then Ok (map contact_of (items_behind (Some value)))
    else Err BadText
