-- Rows stand where their places say, and those of one group have numbers in a row.
use Rattle.fork_tree.proofs.Common.{◌≡◌, ℕ, zero, suc, ◌+◌, ◌<◌, ◌⊎◌, inl, true, false, List, [], ◌∷◌, ◌++◌, map, Option, Some, None, slice_get, refl, ap, sym, subst, ◌∙◌, arith, Row, parent_of, NodePlace, Cell, Entry, find, path_of, row_at, rows_of}
use Rattle.fork_tree.proofs.Common.{AreOlder, AreTogether, differs, new_rows_with, new_rows_from, new_rows_of, place_in, common_steps}
use Rattle.fork_tree.specs.Places.{AllBehind}
use Rattle.fork_tree.proofs.Lines.{AreOlderRows}
use Rattle.fork_tree.proofs.Placed.{get_row, row_got}

-- ---- rows stand where their places say

row_parent : (p : NodePlace) (o : Option Cell) → (row_at p o).parent ≡ p.parent
row_parent p o = grind arith

row_group : (p : NodePlace) (o : Option Cell) → (row_at p o).group ≡ p.group
row_group p o = grind arith

pub record IsPlaceOf (all : List NodePlace) (n : ℕ) (row : Row) : Type 0 where
  pub spot : NodePlace
  pub there : slice_get all n ≡ Some spot
  pub parent : row.parent ≡ spot.parent
  pub group : row.group ≡ spot.group

pub place_got : (all : List NodePlace) (root : List Entry) (rows : List Row) (n : ℕ) (row : Row) → rows_of all root ≡ rows → slice_get rows n ≡ Some row → IsPlaceOf all n row
place_got all root rows n row v is = grind (arith, row_got)

pub record IsRowOf (rows : List Row) (n : ℕ) (p : NodePlace) : Type 0 where
  pub row : Row
  pub there : slice_get rows n ≡ Some row
  pub parent : row.parent ≡ p.parent
  pub group : row.group ≡ p.group

pub row_of : (all : List NodePlace) (root : List Entry) (rows : List Row) (n : ℕ) (p : NodePlace) → rows_of all root ≡ rows → slice_get all n ≡ Some p → IsRowOf rows n p
row_of all root rows n p v is = grind (arith, common_steps, get_row all root 0 n all p is, row_parent p (find root (path_of all (0 + n))), row_group p (find root (path_of all (0 + n))))

-- parents are older
pub older_rows : (all : List NodePlace) (root : List Entry) (rows : List Row) → AreOlder all → rows_of all root ≡ rows → AreOlderRows rows
older_rows all root rows older v k u h = go (slice_get rows k) refl h
  where
    go : (o : Option Row) → slice_get rows k ≡ o → parent_of o ≡ Some u → u < k
    go None is h = absurd cc
    go (Some row) is h =
        let a : IsPlaceOf all k row = place_got all root rows k row v is in
        older k a.spot u a.there (sym a.parent ∙ h)

-- ---- the one right before

none_some : (p : NodePlace) → None ≡ Some p → ⊥
none_some p e = cc

abbrev Follows : List NodePlace → ℕ → NodePlace → ℕ → Type 0
Follows all n p place = (m : ℕ) × (n ≡ suc m) × (slice_get all m ≡ Some (record { parent = p.parent; group = p.group; place = place }))

behind_from : (before : Option NodePlace) (ps : List NodePlace) (n : ℕ) (p : NodePlace) (place : ℕ) → AllBehind before ps → slice_get ps n ≡ Some p → p.place ≡ suc place
    → ((n ≡ 0) × (before ≡ Some (record { parent = p.parent; group = p.group; place = place }))) ⊎ Follows ps n p place
behind_from before [] n p place s is e = absurd cc
behind_from before (x ∷ ps) zero p place s is e =
    let same : x ≡ p = cc in
    inl (refl, subst (λ (y : NodePlace). y.place ≡ suc place → before ≡ Some (record { parent = y.parent; group = y.group; place = place })) same (s.0 place) e)
behind_from before (x ∷ ps) (suc n) p place s is e = grind (arith, behind_from (Some x) ps n p place s.1 is e)

pub behind : (all : List NodePlace) (n : ℕ) (p : NodePlace) (place : ℕ) → AreTogether all → slice_get all n ≡ Some p → p.place ≡ suc place → Follows all n p place
behind all n p place s is e = grind (arith, common_steps, behind_from None all n p place s is e, none_some)

-- ---- places of new rows

pub together_more : (before : Option NodePlace) (xs ys : List NodePlace) → AllBehind before xs → AreTogether ys → AllBehind before (xs ++ ys)
together_more before [] [] s t = tt
together_more before [] (y ∷ ys) s t =
    (λ place e. absurd (none_some (record { parent = y.parent; group = y.group; place = place }) (t.0 place e)), t.1)
together_more before (x ∷ xs) ys s t = (s.0, together_more (Some x) xs ys s.1 t)

-- where a group goes on at this place, its last one stands before
abbrev GoesOn : Option ℕ → Option NodePlace → ℕ → ℕ → Type 0
GoesOn parent prior group place = (last : ℕ) → place ≡ suc last → prior ≡ Some (record { parent = parent; group = group; place = last })

after : (parent : Option ℕ) (g p : ℕ) → GoesOn parent (Some (record { parent = parent; group = g; place = p })) g (suc p)
after parent g p last e = let at : p ≡ last = omega (arith, e) in ap (λ (x : ℕ). Some (record { parent = parent; group = g; place = x })) at

new_rows_behind : (parent : Option ℕ) (prior : Option NodePlace) (before : Option ℕ) (group place : ℕ) (qs : List ℕ) → GoesOn parent prior group place
    → AllBehind prior (map (place_in parent) (new_rows_from before group place qs))
new_rows_behind parent prior before group place [] h = tt
new_rows_behind parent prior before group place (q ∷ qs) h =
    elim (differs before q) as (λ b. AllBehind prior (map (place_in parent) (new_rows_with b group place q (λ x y z. new_rows_from x y z qs)))) [
      | true ↦ (
        λ last e. absurd cc,
        new_rows_behind parent (Some (record { parent = parent; group = suc group; place = 0 })) (Some q) (suc group) 1 qs (after parent (suc group) 0),
      )
      | false ↦ (h, new_rows_behind parent (Some (record { parent = parent; group = group; place = place })) (Some q) group (suc place) qs (after parent group place))
    ]

pub new_rows_together : (parent : Option ℕ) (qs : List ℕ) → AreTogether (map (place_in parent) (new_rows_of qs))
new_rows_together parent qs = new_rows_behind parent None None 0 0 qs (λ last e. absurd cc)
