-- The entries of a shelf by number.
use Rattle.std.specs.Prelude.{◌≡◌, ◌<◌, ◌≤◌, ◌-◌, ℕ, Bool, true, false, Option, Some, None, List, is_some, nat_lt, slice_get, if◌then◌else◌}
use Rattle.std.specs.BTreeMap.{BTreeMap, get}
use Rattle.std.specs.Ordering.{nat_cmp}
use Rattle.call_table.specs.declared.entries.ShelfEntries.{ShelfEntries}

-- there is a place, and it has an entry
abbrev pub has_entry : {X : Type 0} → Option (Option X) → Bool
has_entry None = false
has_entry (Some place) = is_some place

module _ {T A : Type 0} where
  -- a number has an entry in the map
  abbrev pub is_early : ShelfEntries T A → ℕ → Bool
  is_early entries number = is_some (get nat_cmp entries.early number)

  -- a place has an entry
  abbrev pub is_placed : ShelfEntries T A → ℕ → Bool
  is_placed entries at = has_entry (slice_get entries.places.items at)

  -- the entry of a number is there: below `base` it stands in the map, from there on in its place
  abbrev pub is_there : ShelfEntries T A → ℕ → Bool
  is_there entries number =
      if nat_lt number entries.base then is_early entries number else is_placed entries (number - entries.base)

-- the least number from this one on of which this holds, below a limit; none where it holds of none
abbrev pub IsNext : (ℕ → Bool) → ℕ → ℕ → Option ℕ → Type 0
IsNext holds from limit (Some next) = (from ≤ next) × (next < limit) × (holds next ≡ true) × ((m : ℕ) → from ≤ m → m < next → holds m ≡ false)
IsNext holds from limit None = (m : ℕ) → from ≤ m → m < limit → holds m ≡ false
