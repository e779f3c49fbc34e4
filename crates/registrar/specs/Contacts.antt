-- The contacts of a REGISTER request, all together (RFC 3261 sections 10.2.2, 10.3 step 6 and 20.10).
use Rattle.std.specs.Prelude.{ℕ, Bool, false, ◌&&◌, List, [], ◌∷◌, Option, Some, None, codes, if◌then◌else◌}
use Rattle.std.specs.List.{flat_map, list_all}
use Rattle.std.specs.Str.{bytes_eq}
use Rattle.sip_lex.specs.declared.sheltered.Shelter.TheVariants.{QuotesAndAngles}
use Rattle.sip_lex.specs.Sheltered.{is_closed}
use Rattle.sip_uri.specs.Contact.{are_items, items_behind}
use Rattle.bindings.specs.Bindings.{Asked}
use Rattle.registrar.specs.Contact.{Terms, asked_of}
use Rattle.registrar.specs.Expirations.{time_by}

pub data Contacts : Type 0 where
  -- a Contact line that cannot be read, a contact that cannot be bound, or `*` beside anything
  Malformed : Contacts
  -- `*`, with the seconds of Expires
  Star : ℕ → Contacts
  Listed : List Asked → Contacts

-- each quote and bracket of a line is closed, and no item is empty
abbrev pub is_readable : List ℕ → Bool
is_readable value = is_closed QuotesAndAngles value && are_items (items_behind (Some value))

-- the items of all lines, in order
abbrev pub items_of : List (List ℕ) → List (List ℕ)
items_of values = flat_map (λ value. items_behind (Some value)) values

abbrev pub is_star : List ℕ → Bool
is_star item = bytes_eq item (codes "*")

-- it is there alone
abbrev pub are_star : List (List ℕ) → Bool
are_star (item ∷ []) = is_star item
are_star items = false

abbrev pub onto : Option Asked → Option (List Asked) → Option (List Asked)
onto (Some asked) (Some others) = Some (asked ∷ others)
onto _ _ = None

-- what each asks for; nothing where one asks for nothing that can be done
abbrev pub all_asked : Terms → List (List ℕ) → Option (List Asked)
all_asked terms [] = Some []
all_asked terms (item ∷ items) = onto (asked_of terms item) (all_asked terms items)

abbrev pub listed : Option (List Asked) → Contacts
listed None = Malformed
listed (Some contacts) = Listed contacts

abbrev pub contacts_of_items : Terms → List (List ℕ) → Contacts
contacts_of_items terms items = if are_star items then Star (time_by terms.expirations None terms.expires) else listed (all_asked terms items)

-- of the values of all Contact lines
abbrev pub contacts_of : Terms → List (List ℕ) → Contacts
contacts_of terms values = if list_all is_readable values then contacts_of_items terms (items_of values) else Malformed
