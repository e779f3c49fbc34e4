-- Requests of a dialog that went by the proxy (RFC 3261 sections 12.2 and 16.4): the URI by which the proxy stayed on the path comes back in
-- the first Route value, and its parameter `d` is a token that only the proxy can make for this Call-ID.
use Rattle.std.specs.Prelude.{◌≡◌, ℕ, Bool, true, ◌||◌, List, Option, Some, find, is_some, option_and_then, codes}
use Rattle.std.specs.Option.{option_map}
use Rattle.sip_lex.specs.declared.sheltered.Shelter.TheVariants.{QuotesAndAngles}
use Rattle.sip_lex.specs.declared.sheltered.ShelterState.TheVariants.{Plain}
use Rattle.sip_lex.specs.Cut.{cut, is}
use Rattle.sip_lex.specs.Sheltered.{cut_outside}
use Rattle.sip_text.specs.declared.needed.MandatoryHeader.TheVariants.{To}
use Rattle.sip_text.specs.Fields.{value_of}
use Rattle.sip_text.specs.Name.{first_value}
use Rattle.sip_lex.specs.Tag.{tag_in}
use Rattle.sip_text.specs.Text.{MessageText}
use Rattle.sip_uri.specs.Reading.{uri_of}
use Rattle.sip_uri.specs.Uri.{is_named}
use Rattle.sip_via.specs.declared.own.Own.{Own}
use Rattle.sip_route.specs.Loop.{call_id}
use Rattle.sip_route.specs.Routes.{bracketed, names_own, route_name}
use Rattle.sip_digest.specs.Stamp.{IsGoodToken}

-- what stands before the first comma of a line
abbrev pub front_value : List ℕ → List ℕ
front_value line = (cut_outside QuotesAndAngles 44 Plain line).0

abbrev pub first_route : MessageText → Option (List ℕ)
first_route m = option_map front_value (first_value route_name m.headers)

abbrev pub param_value : List ℕ → Option (List ℕ)
param_value param = (cut (is 61) param).1

-- the value of the first parameter `d` of a URI
abbrev pub token_at : List ℕ → Option (List ℕ)
token_at address = option_and_then param_value (find (is_named (codes "d")) (uri_of address).params)

abbrev pub token_of : List ℕ → Option (List ℕ)
token_of value = option_and_then token_at (bracketed value)

-- a Route value leads to the proxy itself: to the address that it receives at, or to the one that its Record-Route line names
abbrev pub names_home : (own route : Own) → List ℕ → Bool
names_home own route value = names_own own value || names_own route value

-- a Route value that does so, with a token that is good for this Call-ID
pub record IsOwnWithToken (secret : List ℕ) (own route : Own) (second : ℕ) (call_id value : List ℕ) : Type 0 where
  pub leads_home : names_home own route value ≡ true
  pub token : List ℕ
  pub has_token : token_of value ≡ Some token
  pub good : IsGoodToken secret call_id second token

-- To has a tag, and the first Route value is such a one
pub record IsOfDialog (secret : List ℕ) (own route : Own) (second : ℕ) (m : MessageText) : Type 0 where
  pub tag : is_some (tag_in (value_of To m.headers)) ≡ true
  pub value : List ℕ
  pub first : first_route m ≡ Some value
  pub known : IsOwnWithToken secret own route second (call_id m) value
