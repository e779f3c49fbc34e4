-- The first entry of a part of a map is that of the next number.
use Rattle.std.proofs.Common.{◌≡◌, ◌<◌, ◌≤◌, ℕ, Bool, true, false, Option, Some, None, List, [], ◌∷◌, is_some, refl, ap, subst, rules, arith}
use Rattle.std.specs.Option.{IsSome}
use Rattle.std.specs.BTreeMap.{BTreeMap, get}
use Rattle.std.specs.BTreeMap.Range.{IsRangeOf, IsLeBy, IsLtBy}
use Rattle.std.specs.declared.ops.Bound.TheVariants.{Included, Excluded}
use Rattle.std.specs.Ordering.{nat_cmp}
use Rattle.call_table.specs.inner.Entries.{IsNext}

none_unless : {X : Type 0} (o : Option X) → (IsSome o → ⊥) → is_some o ≡ false
none_unless None never = refl
none_unless (Some x) never = absurd (never refl)

le_by : (a b : ℕ) → IsLeBy nat_cmp a b → a ≤ b
le_by a b is = search rules

lt_by : (a b : ℕ) → IsLtBy nat_cmp a b → a < b
lt_by a b is = search rules

by_le : (a b : ℕ) → a ≤ b → IsLeBy nat_cmp a b
by_le a b is = search rules

by_lt : (a b : ℕ) → a < b → IsLtBy nat_cmp a b
by_lt a b is = search rules

module _ {X : Type 0} (entries : BTreeMap ℕ X) (from limit : ℕ) where
  abbrev IsPart : List (ℕ × X) → Type 0
  IsPart part = IsRangeOf nat_cmp (Included from) (Excluded limit) entries part

  pub first_is_next : (part rest : List (ℕ × X)) (first : ℕ × X) → IsPart part → part ≡ first ∷ rest
      → IsNext (λ m. is_some (get nat_cmp entries m)) from limit (Some first.0)
  first_is_next part rest first is begins =
      let here : IsPart (first ∷ rest) = subst IsPart begins is in
      let ((at_or_after, before), found) = here.1 in (
        le_by from first.0 at_or_after,
        lt_by first.0 limit before,
        ap is_some found,
        λ m from_m m_first. none_unless (get nat_cmp entries m) (λ there.
            let m_limit : m < limit = omega (arith, lt_by first.0 limit before) in
            let first_m : first.0 ≤ m = le_by first.0 m (here.2 m (by_le from m from_m, by_lt m limit m_limit) there) in
            omega arith),
      )

  pub none_is_next : (part : List (ℕ × X)) → IsPart part → part ≡ []
      → IsNext (λ m. is_some (get nat_cmp entries m)) from limit None
  none_is_next part is empty m from_m m_limit = ap is_some (is.5 empty m (by_le from m from_m, by_lt m limit m_limit))
