-- The users of a shard.
use Rattle.std.specs.Prelude.{◌≡◌, ◌≢◌, ℕ, Bool, Option, List, Vec, is_some, unwrap_or}
use Rattle.std.specs.BTreeMap.{get_by}
use Rattle.std.specs.Cmp.Lexicographic.{slice_cmp}
use Rattle.std.specs.Ordering.{nat_cmp}
use Rattle.binding_table.specs.declared.users.Users.{Users}

module _ {T A : Type 0} where
  -- what is kept of a user, if anything
  unfoldable pub kept_of : Users T A → List ℕ → Option T
  kept_of users name = get_by (λ (other : Vec ℕ A). slice_cmp nat_cmp name other.items) users.bindings

  -- a change of what a user has is under way
  unfoldable pub is_changing : Users T A → List ℕ → Bool
  is_changing users name = is_some (get_by (λ (other : Vec ℕ A). slice_cmp nat_cmp name other.items) users.changing)

  -- what a user has: none, where nothing is kept
  abbrev pub held : T → Users T A → List ℕ → T
  held none users name = unwrap_or (kept_of users name) none

  -- of each other user the same is kept, and a change is under way or not as before
  abbrev pub OthersStay : List ℕ → Users T A → Users T A → Type 0
  OthersStay name old new = (other : List ℕ) → other ≢ name → (kept_of new other ≡ kept_of old other) × (is_changing new other ≡ is_changing old other)
