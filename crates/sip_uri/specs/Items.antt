-- Which texts are the items of a Contact value, and their form (RFC 3261 sections 20.10 and 25.1).
use Rattle.std.specs.Prelude.{◌≡◌, ◌≢◌, ℕ, false, List, [], ◌∷◌, ◌++◌, map, Option, None, IsTrue, ◌⊎◌}
use Rattle.std.specs.List.{flat_map, list_all, AllByRecursion}
use Rattle.sip_lex.specs.declared.sheltered.Shelter.TheVariants.{Quotes, QuotesAndAngles}
use Rattle.sip_lex.specs.declared.sheltered.ShelterState.TheVariants.{Plain}
use Rattle.sip_lex.specs.Bytes.{is_space, trim}
use Rattle.sip_lex.specs.Cut.{behind, Lacks}
use Rattle.sip_lex.specs.Sheltered.{LacksOutside, end_place}
use Rattle.sip_uri.specs.Contact.{ContactText, contact_params, is_bare, is_contact_param, q_of, takeable}
use Rattle.sip_uri.specs.Reading.{read_uri}

-- a display part, `<`, the address, `>`, space, and parameters behind their `;`
pub record IsBracketed (item address : List ℕ) (params : Option (List ℕ)) : Type 0 where
  pub display : List ℕ
  pub gap : List ℕ
  pub spelled : item ≡ display ++ 60 ∷ (address ++ 62 ∷ (gap ++ behind 59 params))
  -- the `<` is the first outside quotes
  pub first : LacksOutside Quotes 60 Plain display
  pub outside : end_place Quotes Plain display ≡ Plain
  -- the first `>` ends the address
  pub ends : Lacks 62 address
  pub spaces : IsTrue (list_all is_space gap)

-- the address, in which no `;`, `,`, `?` or space stands, space, and parameters behind their `;`
pub record IsBare (item address : List ℕ) (params : Option (List ℕ)) : Type 0 where
  pub gap : List ℕ
  pub spelled : item ≡ address ++ (gap ++ behind 59 params)
  pub no_bracket : LacksOutside Quotes 60 Plain item
  pub written : IsTrue (is_bare address)
  pub spaces : IsTrue (list_all is_space gap)

abbrev pub IsForm : List ℕ → List ℕ → Option (List ℕ) → Type 0
IsForm item address params = IsBracketed item address params ⊎ IsBare item address params

-- it has a form, and each of its parameters a name
pub record IsFormed (c : ContactText) : Type 0 where
  pub address : List ℕ
  pub params : Option (List ℕ)
  pub form : IsForm c.text address params
  pub named : IsTrue (list_all is_contact_param (contact_params params))
  pub q : c.q ≡ q_of (contact_params params)
  pub uri : c.uri ≡ takeable (read_uri address)

-- it has none, or a parameter without a name or with an empty value
pub record IsFormless (c : ContactText) : Type 0 where
  pub unnamed : (address : List ℕ) (params : Option (List ℕ)) → IsForm c.text address params → list_all is_contact_param (contact_params params) ≡ false
  pub q : c.q ≡ 1000
  pub uri : c.uri ≡ None

abbrev pub IsContact : ContactText → Type 0
IsContact c = IsFormed c ⊎ IsFormless c

-- the value is pieces between commas outside quotes and brackets, which are closed; the items are these, trimmed, and
-- none of them is empty
pub record AreItems (value : List ℕ) (items : List (List ℕ)) : Type 0 where
  pub pieces : List (List ℕ)
  pub spelled : 44 ∷ value ≡ flat_map (λ piece. 44 ∷ piece) pieces
  pub apart : AllByRecursion (λ piece. LacksOutside QuotesAndAngles 44 Plain piece) pieces
  pub closed : AllByRecursion (λ piece. end_place QuotesAndAngles Plain piece ≡ Plain) pieces
  pub trimmed : items ≡ map trim pieces
  pub full : AllByRecursion (λ item. item ≢ []) items

abbrev pub texts : List ContactText → List (List ℕ)
texts contacts = map (λ c. c.text) contacts
