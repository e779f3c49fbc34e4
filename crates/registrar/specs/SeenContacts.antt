-- Contacts in memory.
use Rattle.std.specs.Prelude.{ℕ, List, map}
use Rattle.std.specs.Borrow.{Bor}
use Rattle.registrar.specs.declared.contacts.Contacts.{Contacts}
use Rattle.registrar.specs.declared.contacts.Contacts.TheVariants as contacts
use Rattle.registrar.specs.Contacts as spec

abbrev pub view_items : List (Bor (List ℕ)) → List (List ℕ)
view_items items = map (λ item. item.now) items

module _ {A : Type 0} where
  abbrev pub seen_contacts : Contacts A → spec.Contacts
  seen_contacts contacts.Malformed = spec.Malformed
  seen_contacts (contacts.Star seconds) = spec.Star seconds
  seen_contacts (contacts.Listed asked) = spec.Listed asked.items
