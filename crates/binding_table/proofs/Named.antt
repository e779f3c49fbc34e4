-- Maps by the names of users, of which that of one changes.
use Rattle.std.proofs.Common.{◌≡◌, ◌≢◌, ℕ, Bool, true, false, Ordering, List, Vec, is_some, refl, sym, ap, ◌∙◌}
use Rattle.std.specs.BTreeMap.{BTreeMap, is_at}
use Rattle.std.specs.Cmp.Lexicographic.{slice_cmp}
use Rattle.std.specs.Map.{IsKeyTest, AreApart, KeepsOthers, lookup}
use Rattle.std.specs.Ordering.{nat_cmp, is_eq, eq_by_cmp}
use Rattle.std.proofs.lemmas.Map.Text.{is_eq-slice_cmp}
use Rattle.std.proofs.lemmas.Slice.Eq.{bytes_eq-Decides}
use Rattle.binding_table.specs.declared.users.Users.{Users}
use Rattle.binding_table.specs.inner.Users.{OthersStay, is_changing, kept_of}

-- texts that differ do not compare equal, and those that do are one
not_equal : (xs ys : List ℕ) → xs ≢ ys → is_eq (slice_cmp nat_cmp xs ys) ≡ false
not_equal xs ys apart = is_eq-slice_cmp xs ys ∙ told _ (λ e. apart ((bytes_eq-Decides xs ys).0 e))
  where
    told : (b : Bool) → (b ≡ true → ⊥) → b ≡ false
    told true never = absurd (never refl)
    told false never = refl

equal : (xs ys : List ℕ) → is_eq (slice_cmp nat_cmp xs ys) ≡ true → xs ≡ ys
equal xs ys e = (bytes_eq-Decides xs ys).0 (sym (is_eq-slice_cmp xs ys) ∙ e)

module _ {A : Type 0} where
  abbrev order : Vec ℕ A → Vec ℕ A → Ordering
  order x y = slice_cmp nat_cmp x.items y.items

  abbrev pub at : List ℕ → Vec ℕ A → Ordering
  at name other = slice_cmp nat_cmp name other.items

  is_test : (other : List ℕ) → IsKeyTest (eq_by_cmp order) (is_at (at other))
  is_test other x y e = ap (λ (text : List ℕ). is_eq (slice_cmp nat_cmp text y.items)) (equal other x.items e)

  are_apart : (name other : List ℕ) → other ≢ name → AreApart (is_at (at name)) (is_at (at other))
  are_apart name other apart key e = not_equal other key.items (λ same. apart (same ∙ sym (equal name key.items e)))

  -- what is found under another name is what was
  pub found_elsewhere : {X : Type 0} (old new : List (Vec ℕ A × X)) (name other : List ℕ) → other ≢ name → KeepsOthers (eq_by_cmp order) (is_at (at name)) old new
      → lookup (is_at (at other)) new ≡ lookup (is_at (at other)) old
  unfolding KeepsOthers
  found_elsewhere old new name other apart keeps = keeps (is_at (at other)) (is_test other) (are_apart name other apart)

  abbrev keeps_others : {X : Type 0} → List ℕ → List (Vec ℕ A × X) → List (Vec ℕ A × X) → Type 0
  keeps_others name old new = KeepsOthers (eq_by_cmp order) (is_at (at name)) old new

  -- what is kept of one user changes
  pub others_by_bindings : {T : Type 0} (old : Users T A) (bindings : BTreeMap (Vec ℕ A) T) (name : List ℕ) → keeps_others name old.bindings.entries bindings.entries
      → OthersStay name old (record { bindings = bindings; changing = old.changing })
  unfolding kept_of is_changing
  others_by_bindings old bindings name keeps other apart = (found_elsewhere old.bindings.entries bindings.entries name other apart keeps, refl)

  -- nothing does
  pub others_by_same_bindings : {T : Type 0} (old : Users T A) (bindings : BTreeMap (Vec ℕ A) T) (name : List ℕ) → bindings.entries ≡ old.bindings.entries
      → OthersStay name old (record { bindings = bindings; changing = old.changing })
  unfolding kept_of is_changing
  others_by_same_bindings old bindings name same other apart = (ap (λ entries. lookup (is_at (at other)) entries) same, refl)

  -- whether a change of one user is under way changes
  pub others_by_changing : {T : Type 0} (old : Users T A) (changing : BTreeMap (Vec ℕ A) (Unit {0})) (name : List ℕ) → keeps_others name old.changing.entries changing.entries
      → OthersStay name old (record { bindings = old.bindings; changing = changing })
  unfolding kept_of is_changing
  others_by_changing old changing name keeps other apart = (refl, ap is_some (found_elsewhere old.changing.entries changing.entries name other apart keeps))

  pub others_by_same_changing : {T : Type 0} (old : Users T A) (changing : BTreeMap (Vec ℕ A) (Unit {0})) (name : List ℕ) → changing.entries ≡ old.changing.entries
      → OthersStay name old (record { bindings = old.bindings; changing = changing })
  unfolding kept_of is_changing
  others_by_same_changing old changing name same other apart = (refl, ap (λ entries. is_some (lookup (is_at (at other)) entries)) same)
