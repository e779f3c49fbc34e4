-- The first entry behind a number is that of the next connection.
use Rattle.std.proofs.Common.{◌≡◌, ◌∙◌, ◌<◌, ◌≤◌, ℕ, Option, Some, None, List, [], ◌∷◌, is_some, refl, ap, sym, subst, rules, arith}
use Rattle.std.specs.Option.{IsSome, option_map}
use Rattle.std.specs.BTreeMap.{BTreeMap, get, is_at}
use Rattle.std.specs.BTreeMap.Range.{IsRangeOf, IsLeBy, IsLtBy}
use Rattle.std.specs.Map.{lookup}
use Rattle.std.specs.declared.ops.Bound.TheVariants.{Excluded, Unbounded}
use Rattle.std.specs.Ordering.{nat_cmp}
use Rattle.stream_connections.specs.Table.{IsNextBehind, Table, connection_in, connection_of}
use Rattle.stream_connections.specs.declared.table.TableEntry.{TableEntry}

none_unless : {X : Type 0} (o : Option X) → (IsSome o → ⊥) → o ≡ None
none_unless None never = refl
none_unless (Some x) never = absurd (never refl)

le_by : (a b : ℕ) → IsLeBy nat_cmp a b → a ≤ b
le_by a b is = search rules

lt_by : (a b : ℕ) → IsLtBy nat_cmp a b → a < b
lt_by a b is = search rules

by_lt : (a b : ℕ) → a < b → IsLtBy nat_cmp a b
by_lt a b is = search rules

module _ {C : Type 0} (t old : Table C) (view : t ≡ old) (entries : BTreeMap ℕ (TableEntry C)) (are : t.connections ≡ entries.entries) (number : ℕ) where
  abbrev IsPart : List (ℕ × TableEntry C) → Type 0
  IsPart part = IsRangeOf nat_cmp (Excluded number) Unbounded entries part

  -- what stands in the map under a number
  there : (m : ℕ) → connection_of old m ≡ option_map connection_in (get nat_cmp entries m)
  there m =
      ap (λ (u : Table C). connection_of u m) (sym view)
      ∙ ap (λ (es : List (ℕ × TableEntry C)). option_map connection_in (lookup (is_at (nat_cmp m)) es)) are

  nothing : (m : ℕ) → get nat_cmp entries m ≡ None → connection_of old m ≡ None
  nothing m is = there m ∙ ap (λ (o : Option (TableEntry C)). option_map connection_in o) is

  pub first_is_next : (part rest : List (ℕ × TableEntry C)) (first : ℕ × TableEntry C) → IsPart part → part ≡ first ∷ rest → IsNextBehind old number (Some first.0)
  first_is_next part rest first is begins =
      let here : IsPart (first ∷ rest) = subst IsPart begins is in
      let ((after, ends), found) = here.1 in (
        lt_by number first.0 after,
        ap is_some (there first.0) ∙ ap (λ (o : Option (TableEntry C)). is_some (option_map connection_in o)) found,
        λ m behind before. nothing m (none_unless (get nat_cmp entries m) (λ some.
            let first_m : first.0 ≤ m = le_by first.0 m (here.2 m (by_lt number m behind, tt) some) in
            omega (arith, first_m, before))),
      )

  pub none_is_next : (part : List (ℕ × TableEntry C)) → IsPart part → part ≡ [] → IsNextBehind old number None
  none_is_next part is empty m behind = nothing m (is.5 empty m (by_lt number m behind, tt))
