-- New rows, with their extras, are the rows that a redirection adds, and those that a request opens with.
use Rattle.fork_context.proofs.Common.{◌≡◌, ℕ, zero, suc, true, List, [], ◌∷◌, length, map, Option, Some, None, refl, ◌∙◌, sym, slice_get, is_some, option_map, filter_map, length-map, Offer, Row, Idle, numbered, fresh_row, fresh_rows, AllPlaces}
use Rattle.fork_context.proofs.Common.{numbered_places, NewRow, waiting_row, new_rows_of, RowExtras, with_extras, row_extras_of, row_extras_at, contact_qs, q_at, q_of_pair, common_steps, arith}
use Rattle.std.proofs.lemmas.List.{map-id}
use Rattle.fork_context.proofs.NewRowGroups.{group_and_q, group_of_pair, new_rows_numbered, length_new_rows, length_in_order}

-- what stands at a place
there_at : {X : Type 0} (q : X → ℕ) (xs : List X) (place : ℕ) → is_some (slice_get (map q xs) place) ≡ true
    → (x : X) × (slice_get xs place ≡ Some x) × (q_at (map q xs) place ≡ q x)
there_at q [] place e = absurd cc
there_at q (x ∷ xs) zero e = (x, refl, refl)
there_at q (x ∷ xs) (suc place) e = there_at q xs place e

abbrev pub extras_by : {X : Type 0} → (ℕ → X → RowExtras) → List X → ℕ × ℕ → Option RowExtras
extras_by extras xs p = option_map (extras p.1) (slice_get xs p.1)

abbrev pub rows_by : {X : Type 0} → (ℕ × ℕ → X → Row) → List X → ℕ × ℕ → Option Row
rows_by row xs p = option_map (row p) (slice_get xs p.1)

-- each new row with its extras is the row that is made of what stands at its place
pub rows_made : {X : Type 0} (q : X → ℕ) (extras : ℕ → X → RowExtras) (row : ℕ × ℕ → X → Row) (after : Row → Row) (parent : Option ℕ)
    → ((p : ℕ × ℕ) (x : X) → record { key = (extras p.1 x).key; q = q x; place = (extras p.1 x).place; parent = parent; group = p.0; state = Idle }
    ≡ after (row p x))
    → (xs : List X) (pairs : List (ℕ × ℕ)) (new_rows : List NewRow) → AllPlaces (map q xs) pairs
    → map group_and_q new_rows ≡ map (group_of_pair (map q xs)) pairs
    → with_extras (map (waiting_row parent) new_rows) (filter_map (extras_by extras xs) pairs) ≡ map after (filter_map (rows_by row xs) pairs)
rows_made q extras row after parent one xs [] [] there same = refl
rows_made q extras row after parent one xs [] (s ∷ new_rows) there same = absurd cc
rows_made q extras row after parent one xs (p ∷ pairs) [] there same = absurd cc
rows_made q extras row after parent one xs (p ∷ pairs) (s ∷ new_rows) there same =
    let x = there_at q xs p.1 there.0 in
    let b : RowExtras = extras p.1 x.0 in
    let head : group_and_q s ≡ group_of_pair (map q xs) p = cc in
    let tail : map group_and_q new_rows ≡ map (group_of_pair (map q xs)) pairs = cc in
    grind (arith, common_steps, rows_made q extras row after parent one xs pairs new_rows there.1 tail)

-- there are extras for each
pub length_extras : {X : Type 0} (q : X → ℕ) (extras : ℕ → X → RowExtras) (xs : List X) (pairs : List (ℕ × ℕ)) → AllPlaces (map q xs) pairs
    → length (filter_map (extras_by extras xs) pairs) ≡ length pairs
length_extras q extras xs [] there = refl
length_extras q extras xs (p ∷ pairs) there = grind (arith, common_steps, there_at, there, length_extras q extras xs pairs there.1)

-- the contacts in the order in which they are tried, as rows that wait, with their extras
pub added_rows : (n : ℕ) (fresh : List (ℕ × Offer))
    → with_extras (map (waiting_row (Some n)) (new_rows_of (map (q_of_pair (contact_qs fresh)) (numbered (contact_qs fresh)))))
    (filter_map (row_extras_at fresh) (numbered (contact_qs fresh)))
    ≡ fresh_rows n fresh
added_rows n fresh =
    let qs = contact_qs fresh in
    rows_made (λ f. f.1.q) (λ place f. row_extras_of f) (λ p f. fresh_row n p.0 f) (λ r. r) (Some n) (λ p f. refl) fresh (numbered qs)
    (new_rows_of (map (q_of_pair qs) (numbered qs))) (numbered_places qs) (new_rows_numbered qs)
    ∙ map-id (fresh_rows n fresh)

-- as many rows as contacts, and extras for each
pub added_sizes : (fresh : List (ℕ × Offer))
    → (length (filter_map (row_extras_at fresh) (numbered (contact_qs fresh))) ≡ length (new_rows_of (map (q_of_pair (contact_qs fresh)) (numbered (contact_qs fresh)))))
    × (length (map (q_of_pair (contact_qs fresh)) (numbered (contact_qs fresh))) ≡ length fresh)
added_sizes fresh =
    let qs = contact_qs fresh in (
      length_extras (λ f. f.1.q) (λ place f. row_extras_of f) fresh (numbered qs) (numbered_places qs)
          ∙ sym (length_new_rows None 0 0 (map (q_of_pair qs) (numbered qs)) ∙ length-map (numbered qs) (q_of_pair qs)),
      length_in_order qs ∙ length-map fresh (λ f. f.1.q),
    )
