-- Rows that keep their order from one to the next are those of a tree.
use Rattle.fork_tree.proofs.Common.{◌≡◌, ℕ, zero, suc, ◌+◌, ◌<◌, ◌≤◌, ◌⊎◌, inl, inr, List, [], ◌∷◌, length, Option, Some, slice_get, refl, ap, sym, ◌∙◌, arith, most_targets, RowRef, AreRows, IsBeside, IsFirstUnder, common_steps}
use Rattle.fork_tree.specs.Given.{IsParent}

-- a row stands beside the one before it, or is the first under a parent that comes later in some order of the parents
abbrev pub IsNext : (Option ℕ → ℕ) → RowRef → RowRef → Type 0
IsNext order a b = ((a.parent ≡ b.parent) × IsBeside a b) ⊎ ((order a.parent < order b.parent) × (b.group ≡ 0))

pub record AreInOrder (order : Option ℕ → ℕ) (rows : List RowRef) : Type 0 where
  pub few : length rows ≤ most_targets
  pub number : (n : ℕ) (r : RowRef) → slice_get rows n ≡ Some r → r.no ≡ n
  pub parent : (n m : ℕ) (r : RowRef) → slice_get rows n ≡ Some r → r.parent ≡ Some m → IsParent rows n m
  pub first : (r : RowRef) → slice_get rows 0 ≡ Some r → r.group ≡ 0
  pub next : (n : ℕ) (a b : RowRef) → slice_get rows n ≡ Some a → slice_get rows (suc n) ≡ Some b → IsNext order a b

abbrev AreNext : (Option ℕ → ℕ) → List RowRef → Type 0
AreNext order rows = (n : ℕ) (a b : RowRef) → slice_get rows n ≡ Some a → slice_get rows (suc n) ≡ Some b → IsNext order a b

one_before : (rows : List RowRef) (n : ℕ) (b : RowRef) → slice_get rows (suc n) ≡ Some b → (a : RowRef) × (slice_get rows n ≡ Some a)
one_before [] n b is = absurd cc
one_before (x ∷ xs) zero b is = (x, refl)
one_before (x ∷ xs) (suc n) b is = one_before xs n b is

same_place : (rows : List RowRef) (i j : ℕ) (a b : RowRef) → i ≡ j → slice_get rows i ≡ Some a → slice_get rows j ≡ Some b → a ≡ b
same_place rows i j a b e ia ib = let same : Some a ≡ Some b = sym ia ∙ ap (slice_get rows) e ∙ ib in cc

rises : (order : Option ℕ → ℕ) (rows : List RowRef) → AreNext order rows → (d i j : ℕ) (a b : RowRef) → j ≡ i + d → slice_get rows i ≡ Some a → slice_get rows j ≡ Some b
    → (a.parent ≡ b.parent) ⊎ (order a.parent < order b.parent)
rises order rows next zero i j a b e ia ib = inl (ap (λ (r : RowRef). r.parent) (same_place rows i j a b (omega (arith, e)) ia ib))
rises order rows next (suc d) i zero a b e ia ib = absurd (omega (arith, e))
rises order rows next (suc d) i (suc j) a b e ia ib =
    let m = one_before rows j b ib in
    elim (rises order rows next d i j a m.0 (omega (arith, e)) ia m.1) [
      | inl same ↦ elim (next j m.0 b m.1 ib) [
        | inl beside ↦ inl (same ∙ beside.0)
        | inr later ↦ inr (omega (arith, ap order same, later.0))
      ]
      | inr rising ↦ elim (next j m.0 b m.1 ib) [
        | inl beside ↦ inr (omega (arith, rising, ap order beside.0))
        | inr later ↦ inr (omega (arith, rising, later.0))
      ]
    ]

gap : (i j : ℕ) → i < j → (d : ℕ) × (j ≡ i + d)
gap i zero l = absurd (omega (arith, l))
gap zero (suc j) l = (suc j, omega arith)
gap (suc i) (suc j) l = let d = gap i j (omega (arith, l)) in (d.0, omega (arith, d.1))

stand_together : (order : Option ℕ → ℕ) (rows : List RowRef) → AreNext order rows → (i j k : ℕ) (a b c : RowRef) → i < j → j < k → slice_get rows i ≡ Some a
    → slice_get rows j ≡ Some b → slice_get rows k ≡ Some c → a.parent ≡ c.parent → b.parent ≡ a.parent
stand_together order rows next i j k a b c ij jk ia ib ic e =
    let d = gap i j ij in
    let f = gap j k jk in
    grind (arith, common_steps, rises order rows next d.0 i j a b d.1 ia ib, rises order rows next f.0 j k b c f.1 ib ic)

pub ordered_rows : (order : Option ℕ → ℕ) (rows : List RowRef) → AreInOrder order rows → AreRows rows
ordered_rows order rows h = record {
  few = h.few;
  number = h.number;
  parent = h.parent;
  together = stand_together order rows h.next;
  first_group = first_in;
  beside = λ n a b ia ib e. elim (h.next n a b ia ib) [
    | inl beside ↦ beside.1
    | inr later ↦ absurd (omega (arith, later.0, ap order e))
  ];
}
  where
    first_in : (n : ℕ) (r : RowRef) → slice_get rows n ≡ Some r → IsFirstUnder rows n r.parent → r.group ≡ 0
    first_in zero r is alone = h.first r is
    first_in (suc n) r is alone =
        let a = one_before rows n r is in
        elim (h.next n a.0 r a.1 is) [
          | inl beside ↦ absurd (alone n a.0 (omega arith) a.1 beside.0)
          | inr later ↦ later.1
        ]
