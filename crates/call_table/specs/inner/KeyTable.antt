-- The keys of a shelf, and what number a key has.
use Rattle.std.specs.Prelude.{◌≡◌, ◌≢◌, ◌+◌, ℕ, Option, Some, None, List, Vec, nat_eq, if◌then◌else◌}
use Rattle.std.specs.BTreeMap.{BTreeMap, get, get_by}
use Rattle.std.specs.Cmp.Lexicographic.{slice_cmp, pointwise}
use Rattle.std.specs.Hash.FoldHasher.{initial, write, finish}
use Rattle.std.specs.Option.{option_or}
use Rattle.std.specs.Ordering.{nat_cmp}
use Rattle.call_table.specs.declared.key_table.KeyTable.{KeyTable}
use Rattle.call_table.specs.declared.key_table.ListedKey.{ListedKey}

-- the kit's hash of a key
abbrev pub digest_of : List ℕ → ℕ
digest_of key = finish (write initial key)

module _ {A : Type 0} where
  -- the number of a key in a map
  abbrev pub number_among : BTreeMap (Vec ℕ A) ℕ → List ℕ → Option ℕ
  number_among keys key = get_by (λ (other : Vec ℕ A). slice_cmp nat_cmp key other.items) keys

  -- the number of what is listed, where it is this key
  abbrev pub number_where : List ℕ → Option (ListedKey A) → Option ℕ
  number_where key None = None
  number_where key (Some listed) = if pointwise nat_eq listed.key.items key then Some listed.number else None

  -- the number of a key
  abbrev pub number_of : KeyTable A → List ℕ → Option ℕ
  number_of key_table key = option_or (number_among key_table.others key) (number_where key (get nat_cmp key_table.firsts (digest_of key)))

  -- each key has the number that it had, and the same number comes next
  abbrev pub IsSame : KeyTable A → KeyTable A → Type 0
  IsSame old new = (new.next ≡ old.next) × ((key : List ℕ) → number_of new key ≡ number_of old key)

  -- a key has got the next number, and each other has the one that it had
  abbrev pub IsListed : List ℕ → KeyTable A → KeyTable A → Type 0
  IsListed key old new = (new.next ≡ old.next + 1) × (number_of new key ≡ Some old.next)
      × ((other : List ℕ) → other ≢ key → number_of new other ≡ number_of old other)

  -- a key has no number, each other has the one that it had, and the same number comes next
  abbrev pub IsUnlisted : List ℕ → KeyTable A → KeyTable A → Type 0
  IsUnlisted key old new = (new.next ≡ old.next) × (number_of new key ≡ None)
      × ((other : List ℕ) → other ≢ key → number_of new other ≡ number_of old other)
