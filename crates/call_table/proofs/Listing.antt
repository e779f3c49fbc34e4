-- Of a key that is added to a map, or taken away: each other key has the number that it had.
use Rattle.std.proofs.Common.{◌≡◌, ◌≢◌, ℕ, Bool, true, false, Ordering, Some, None, List, [], ◌∷◌, Vec, sym, refl, ap, ◌∙◌, cond}
use Rattle.std.specs.declared.cmp.Ordering.TheVariants.{Less, Equal, Greater}
use Rattle.std.specs.BTreeMap.{BTreeMap, insert_entry}
use Rattle.std.specs.Cmp.Lexicographic.{slice_cmp}
use Rattle.std.specs.Map.{lookup, remove_entry}
use Rattle.std.specs.Ordering.{nat_cmp, is_eq, match_ordering}
use Rattle.std.proofs.lemmas.Map.Lookups.{exact_bytes}
use Rattle.std.proofs.lemmas.Map.Text.{is_eq-slice_cmp}
use Rattle.std.proofs.lemmas.Slice.Eq.{bytes_eq-Decides}
use Rattle.call_table.specs.inner.KeyTable.{number_among}

-- texts that differ do not compare equal
not_equal : (xs ys : List ℕ) → xs ≢ ys → is_eq (slice_cmp nat_cmp xs ys) ≡ false
not_equal xs ys apart = is_eq-slice_cmp xs ys ∙ told _ (λ e. apart ((bytes_eq-Decides xs ys).0 e))
  where
    told : (b : Bool) → (b ≡ true → ⊥) → b ≡ false
    told true never = absurd (never refl)
    told false never = refl

module _ {A : Type 0} where
  abbrev order : Vec ℕ A → Vec ℕ A → Ordering
  order x y = slice_cmp nat_cmp x.items y.items

  -- a look-up of another key passes over what was inserted
  passes_over : (entries : List (Vec ℕ A × ℕ)) (key : Vec ℕ A) (number : ℕ) (other : List ℕ) → other ≢ key.items
      → lookup (λ (y : Vec ℕ A). is_eq (slice_cmp nat_cmp other y.items)) (insert_entry order entries key number)
      ≡ lookup (λ (y : Vec ℕ A). is_eq (slice_cmp nat_cmp other y.items)) entries
  passes_over [] key number other apart = ap (λ b. cond b (Some number) None) (not_equal other key.items apart)
  passes_over (e ∷ es) key number other apart = by_order (passes_over es key number other apart) (order key e.0) refl
    where
      at : Vec ℕ A → Bool
      at y = is_eq (slice_cmp nat_cmp other y.items)

      by_order : lookup at (insert_entry order es key number) ≡ lookup at es → (o : Ordering) → order key e.0 ≡ o
          → lookup at (match_ordering o ((key, number) ∷ e ∷ es) ((e.0, number) ∷ es) (e ∷ insert_entry order es key number)) ≡ lookup at (e ∷ es)
      by_order rest Less is = ap (λ b. cond b (Some number) (lookup at (e ∷ es))) (not_equal other key.items apart)
      by_order rest Equal is =
          let differs = not_equal other e.0.items (λ same. apart (same ∙ sym (exact_bytes key.items e.0.items is))) in
          ap (λ b. cond b (Some number) (lookup at es)) differs ∙ sym (ap (λ b. cond b (Some e.1) (lookup at es)) differs)
      by_order rest Greater is = ap (λ found. cond (at e.0) (Some e.1) found) rest

  -- a key is added
  pub other_listed : (old new : BTreeMap (Vec ℕ A) ℕ) (key : Vec ℕ A) (number : ℕ) → new.entries ≡ insert_entry order old.entries key number
      → (other : List ℕ) → other ≢ key.items → number_among new other ≡ number_among old other
  other_listed old new key number is other apart =
      ap (λ entries. lookup (λ (y : Vec ℕ A). is_eq (slice_cmp nat_cmp other y.items)) entries) is
      ∙ passes_over old.entries key number other apart

  -- a look-up of another key passes over what was removed
  passes_removed : (entries : List (Vec ℕ A × ℕ)) (key other : List ℕ) → other ≢ key
      → lookup (λ (y : Vec ℕ A). is_eq (slice_cmp nat_cmp other y.items)) (remove_entry (λ (y : Vec ℕ A). is_eq (slice_cmp nat_cmp key y.items)) entries)
      ≡ lookup (λ (y : Vec ℕ A). is_eq (slice_cmp nat_cmp other y.items)) entries
  passes_removed [] key other apart = refl
  passes_removed (e ∷ es) key other apart = by_test (passes_removed es key other apart) (is_key e.0) refl
    where
      at : Vec ℕ A → Bool
      at y = is_eq (slice_cmp nat_cmp other y.items)

      is_key : Vec ℕ A → Bool
      is_key y = is_eq (slice_cmp nat_cmp key y.items)

      by_test : lookup at (remove_entry is_key es) ≡ lookup at es → (b : Bool) → is_key e.0 ≡ b
          → lookup at (cond b es (e ∷ remove_entry is_key es)) ≡ lookup at (e ∷ es)
      by_test rest true is =
          let same = (bytes_eq-Decides key e.0.items).0 (sym (is_eq-slice_cmp key e.0.items) ∙ is) in
          sym (ap (λ b. cond b (Some e.1) (lookup at es)) (not_equal other e.0.items (λ other_is. apart (other_is ∙ sym same))))
      by_test rest false is = ap (λ found. cond (at e.0) (Some e.1) found) rest

  -- a key is taken away
  pub other_unlisted : (old new : BTreeMap (Vec ℕ A) ℕ) (key : List ℕ) → new.entries ≡ remove_entry (λ (y : Vec ℕ A). is_eq (slice_cmp nat_cmp key y.items)) old.entries
      → (other : List ℕ) → other ≢ key → number_among new other ≡ number_among old other
  other_unlisted old new key is other apart =
      ap (λ entries. lookup (λ (y : Vec ℕ A). is_eq (slice_cmp nat_cmp other y.items)) entries) is
      ∙ passes_removed old.entries key other apart
