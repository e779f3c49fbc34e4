-- Settling an open table is the start of the one group that may start.
use Rattle.fork_context.proofs.Common.{◌≡◌, ℕ, zero, suc, ◌+◌, ◌<◌, ◌≤◌, Bool, true, false, List, [], ◌∷◌, length, map, Some, refl, ap, arith, cond, slice_get, get_or, Row, Table, Trying, may_start, settled_row, settled, may_start_facts, OneGroup}
use Rattle.fork_context.proofs.Common.{IsReady, tried, common_steps}
use Rattle.std.proofs.lemmas.Option.{slice_get-get_or}

map_same : (f : Row → Row) (rows : List Row) → ((k : ℕ) (row : Row) → slice_get rows k ≡ Some row → f row ≡ row) → map f rows ≡ rows
map_same f [] h = refl
map_same f (row ∷ rows) h = (λ i. h 0 row refl i ∷ map_same f rows (λ k r is. h (suc k) r is) i)

map_tried : (f : Row → Row) (rows : List Row) (first count : ℕ)
    → ((k : ℕ) (row : Row) → slice_get rows k ≡ Some row → first ≤ k → k < first + count → f row ≡ record row { state = Trying })
    → ((k : ℕ) (row : Row) → slice_get rows k ≡ Some row → ((first ≤ k) → (k < first + count) → ⊥) → f row ≡ row)
    → map f rows ≡ tried rows first count
map_tried f [] first count starts stays = refl
map_tried f (row ∷ rows) zero zero starts stays =
    map_same f (row ∷ rows) (λ k r is. stays k r is (λ lo hi. let less : k < 0 + 0 = hi in omega arith))
map_tried f (row ∷ rows) zero (suc count) starts stays =
    let here : f row ≡ record row { state = Trying } = starts 0 row refl (omega arith) (omega arith) in
    let rest : map f rows ≡ tried rows zero count =
    map_tried f rows zero count
    (λ k r is lo hi. starts (suc k) r is (omega arith) (let less : k < 0 + count = hi in omega arith))
    (λ k r is out. stays (suc k) r is (λ lo hi. out (omega arith) (let less : suc k < 0 + suc count = hi in omega arith))) in
    (λ i. here i ∷ rest i)
map_tried f (row ∷ rows) (suc first) count starts stays =
    let here : f row ≡ row = stays 0 row refl (λ lo hi. let le : suc first ≤ 0 = lo in omega arith) in
    let rest : map f rows ≡ tried rows first count =
    map_tried f rows first count
    (λ k r is lo hi. starts (suc k) r is (let le : first ≤ k = lo in omega arith) (let less : k < first + count = hi in omega arith))
    (λ k r is out. stays (suc k) r is (λ lo hi. out (let le : suc first ≤ suc k = lo in omega arith) (let less : suc k < suc first + count = hi in omega arith))) in
    (λ i. here i ∷ rest i)

-- a row of an open table once it is settled
settled_to : (u : Table) (row : Row) (b : Bool) → u.closed ≡ false → may_start u.rows row ≡ b → settled_row u row ≡ record row { state = cond b Trying row.state }
settled_to u row b open_yet e = grind arith

-- where none may start, settling leaves all as it is
pub settled_none : (u : Table) → u.closed ≡ false → ((k : ℕ) (row : Row) → slice_get u.rows k ≡ Some row → may_start u.rows row ≡ false)
    → settled u ≡ u
settled_none u open_yet none = grind (arith, common_steps, map_same, settled_to)

-- where a group may start, its rows are tried and all others stay
pub settled_group : (u : Table) (first count : ℕ) → u.closed ≡ false → OneGroup u.rows → IsReady u.rows first count
    → settled u ≡ record u { rows = tried u.rows first count }
settled_group u first count open_yet one ready =
    let rows : map (settled_row u) u.rows ≡ tried u.rows first count =
    map_tried (settled_row u) u.rows first count starts stays in
    ap (λ (rows : List Row). let t : Table = record u { rows = rows } in t) rows
  where
    starts : (k : ℕ) (row : Row) → slice_get u.rows k ≡ Some row → first ≤ k → k < first + count → settled_row u row ≡ record row { state = Trying }
    starts k row is lo hi = settled_to u row true open_yet (ready.ready k row lo hi is)

    of : (k : ℕ) (row : Row) → slice_get u.rows k ≡ Some row → may_start u.rows row ≡ true → (first ≤ k) × (k < first + count)
    of k row is e =
        let some : 0 < count = ready.some in
        let within : first + count ≤ length u.rows = ready.within in
        let there : slice_get u.rows first ≡ Some (get_or u.rows first row) = slice_get-get_or u.rows first row (omega arith) in
        let lo : first ≤ first = omega arith in
        let hi : first < first + count = omega arith in
        let may : may_start u.rows (get_or u.rows first row) ≡ true = ready.ready first (get_or u.rows first row) lo hi there in
        let same = one k first row (get_or u.rows first row) is there (may_start_facts u.rows row e) (may_start_facts u.rows (get_or u.rows first row) may) in
        ready.whole first k (get_or u.rows first row) row lo hi there is same.0 same.1

    stays : (k : ℕ) (row : Row) → slice_get u.rows k ≡ Some row → ((first ≤ k) → (k < first + count) → ⊥) → settled_row u row ≡ row
    stays k row is out = go (may_start u.rows row) refl
      where
        go : (b : Bool) → may_start u.rows row ≡ b → settled_row u row ≡ row
        go true e = let at = of k row is e in absurd (out at.0 at.1)
        go false e = settled_to u row false open_yet e
