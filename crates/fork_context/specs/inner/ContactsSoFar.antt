-- The contacts of a 3xx as they are gone through.
use Rattle.std.specs.Prelude.{ℕ, List, [], ◌∷◌, ◌++◌, map, unwrap_or}
use Rattle.fork_model.specs.Table.{Offer}
use Rattle.fork_model.specs.Contacts.{ContactOutcome, Known, Fresh, Left, ContactLists}

-- the keys of the contacts that become targets
abbrev pub keys_of_fresh : List (ℕ × Offer) → List (List ℕ)
keys_of_fresh fresh = map (λ f. unwrap_or f.1.key []) fresh

-- what is taken and left, one contact further
abbrev pub taken_more : ℕ → Offer → ContactOutcome → ContactLists → ContactLists
taken_more place offer Known taken = taken
taken_more place offer (Fresh key) taken = record taken { fresh = taken.fresh ++ (place, offer) ∷ [] }
taken_more place offer Left taken = record taken { left = taken.left ++ offer ∷ [] }
