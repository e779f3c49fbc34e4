-- Rows that stand where they are given, some of them not yet in their state.
use Rattle.fork_tree.proofs.Common.{◌≡◌, ℕ, zero, suc, ◌≤◌, ◌⊎◌, inl, inr, Bool, true, false, List, [], ◌∷◌, ◌++◌, length, map, take, drop, Option, Some, IsTrue, slice_get, refl, ap, sym, subst, ◌∙◌, arith, if◌then◌else◌, Row, is_row, is_idle}
use Rattle.fork_tree.proofs.Common.{is_open, with_state, RowRef, State, plain_state, differs, new_rows_with, new_rows_from, waiting_row, given_row, IsHalf, AllHalf, q_of, common_steps}
use Rattle.fork_model.specs.Table as spec
use Rattle.fork_tree.specs.inner.Given.{IsHalfRow}

-- ---- a row comes into its state

pub half_with : (rows : List Row) (gs : List RowRef) (n : ℕ) (g : RowRef) → AllHalf rows gs → slice_get gs n ≡ Some g → AllHalf (with_state rows n (plain_state g.state)) gs
half_with [] gs n g h is = tt
half_with (r ∷ rs) [] n g h is = absurd h
half_with (r ∷ rs) (x ∷ gs) zero g h is = grind arith
half_with (r ∷ rs) (x ∷ gs) (suc n) g h is = (h.0, half_with rs gs n g h.1 is)

pub given_next : (rows : List Row) (gs : List RowRef) (n : ℕ) (g : RowRef) → AllHalf rows gs → slice_get gs n ≡ Some g
    → take n rows ≡ take n (map given_row gs) → take (suc n) (with_state rows n (plain_state g.state)) ≡ take (suc n) (map given_row gs) ⊎ (length rows ≤ n)
given_next [] gs n g h is e = inr (omega arith)
given_next (r ∷ rs) [] n g h is e = absurd h
given_next (r ∷ rs) (x ∷ gs) zero g h is e = grind arith
given_next (r ∷ rs) (x ∷ gs) (suc n) g h is e =
    let head : r ≡ given_row x = cc in
    let tail : take n rs ≡ take n (map given_row gs) = cc in
    grind (arith, common_steps, given_next rs gs n g h.1 is tail)

-- ---- more rows come

pub half_append : (rows more : List Row) (gs : List RowRef) → AllHalf rows gs → AllHalf more (drop (length rows) gs) → AllHalf (rows ++ more) gs
half_append [] more gs h k = k
half_append (r ∷ rs) more [] h k = absurd h
half_append (r ∷ rs) more (g ∷ gs) h k = (h.0, half_append rs more gs h.1 k)

-- rows of one parent in groups of equal q, after a row of this q in this group
abbrev pub AreBeside : Option ℕ → Option ℕ → ℕ → List RowRef → Type 0
AreBeside parent before group [] = Unit {0}
AreBeside parent before group (g ∷ gs) =
    (g.parent ≡ parent) × (g.group ≡ (if differs before g.q then suc group else group)) × AreBeside parent (Some g.q) g.group gs

pub half_waiting_row : (parent before : Option ℕ) (group place : ℕ) (gs rest : List RowRef) → AreBeside parent before group gs
    → AllHalf (map (waiting_row parent) (new_rows_from before group place (map q_of gs))) (gs ++ rest)
half_waiting_row parent before group place [] rest h = tt
half_waiting_row parent before group place (g ∷ gs) rest h = go (λ p. half_waiting_row parent (Some g.q) g.group p gs rest h.2) (differs before g.q) h.1
  where
    is : (k p : ℕ) → g.group ≡ k → IsHalfRow (waiting_row parent (record { group = k; place = p; q = g.q })) g
    is k p e = record {
      shape = ap (λ (x : Option ℕ). record { key = []; q = g.q; place = 0; parent = x; group = k; state = spec.Idle }) (sym h.0)
          ∙ ap (λ (x : ℕ). record { key = []; q = g.q; place = 0; parent = g.parent; group = x; state = spec.Idle }) (sym e);
      half = inl refl;
    }

    rest_at : ((p : ℕ) → AllHalf (map (waiting_row parent) (new_rows_from (Some g.q) g.group p (map q_of gs))) (gs ++ rest)) → (k p : ℕ) → g.group ≡ k
        → AllHalf (map (waiting_row parent) (new_rows_from (Some g.q) k p (map q_of gs))) (gs ++ rest)
    rest_at again k p e =
        subst (λ (x : ℕ). AllHalf (map (waiting_row parent) (new_rows_from (Some g.q) x p (map q_of gs))) (gs ++ rest)) e (again p)

    go : ((p : ℕ) → AllHalf (map (waiting_row parent) (new_rows_from (Some g.q) g.group p (map q_of gs))) (gs ++ rest)) → (b : Bool) → g.group ≡ (if b then suc group else group)
        → AllHalf (map (waiting_row parent) (new_rows_with b group place g.q (λ x y z. new_rows_from x y z (map q_of gs)))) (g ∷ (gs ++ rest))
    go again true e = (is (suc group) 0 e, rest_at again (suc group) 1 e)
    go again false e = (is group place e, rest_at again group (suc place) e)

-- ---- one row's state

pub started_open : (rows : List Row) (n : ℕ) → IsTrue (is_row is_idle (slice_get rows n)) → IsTrue (is_row is_open (slice_get (with_state rows n spec.Trying) n))
started_open [] n h = h
started_open (r ∷ rs) zero h = refl
started_open (r ∷ rs) (suc n) h = started_open rs n h

pub state_twice : (rows : List Row) (n : ℕ) (s t : spec.State) → with_state (with_state rows n s) n t ≡ with_state rows n t
state_twice [] n s t = refl
state_twice (r ∷ rs) zero s t = refl
state_twice (r ∷ rs) (suc n) s t = ap (λ x. r ∷ x) (state_twice rs n s t)

-- a row that does not wait any more is in its state
pub stays : (rows : List Row) (n : ℕ) (s : State) → IsHalf (slice_get rows n) s → is_row is_idle (slice_get rows n) ≡ false → rows ≡ with_state rows n (plain_state s)
stays [] n s h f = absurd h
stays (r ∷ rs) zero s h f = grind arith
stays (r ∷ rs) (suc n) s h f = ap (λ x. r ∷ x) (stays rs n s h f)
