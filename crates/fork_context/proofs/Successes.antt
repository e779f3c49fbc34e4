-- Whether a 2xx came, as rows change.
use Rattle.fork_context.proofs.Common.{◌≡◌, ℕ, zero, suc, ◌+◌, ◌<◌, ◌≤◌, Bool, true, false, List, [], ◌∷◌, ◌++◌, map, Some, refl, ap, arith, sym, slice_get, ◌||◌, Row, State, End, Ended, is_idle, is_accepted, is_succeeded, with_state, tried}
use Rattle.fork_context.proofs.Common.{never_state, never_row, RowExtras, end_with_extras, with_extras, is_accepted_end, common_steps}
use Rattle.std.proofs.Math.Bool.{or_comm, or_assoc}
use Rattle.fork_context.proofs.RowsWithExtras.{state_read}

-- a row that was not answered with a 2xx goes to another state
pub succeeded_state : (rows : List Row) (n : ℕ) (row : Row) (state : State) → slice_get rows n ≡ Some row → is_accepted row.state ≡ false
    → is_succeeded (with_state rows n state) ≡ (is_succeeded rows || is_accepted state)
succeeded_state [] n row state is e = absurd cc
succeeded_state (x ∷ rows) zero row state is e = grind (arith, common_steps, or_comm)
succeeded_state (x ∷ rows) (suc n) row state is e = grind (arith, common_steps, or_assoc, succeeded_state rows n row state is e)

-- a row that passes a test that no end passes
pub not_accepted : (test : State → Bool) → ((end : End) → test (Ended end) ≡ false) → (state : State) → test state ≡ true → is_accepted state ≡ false
not_accepted test unended state e = grind arith

pub none_succeeded : (rows : List Row) → ((k : ℕ) (row : Row) → slice_get rows k ≡ Some row → is_idle row.state ≡ true) → is_succeeded rows ≡ false
none_succeeded [] h = refl
none_succeeded (x ∷ rows) h =
    (λ i. not_accepted is_idle (λ end. refl) x.state (h 0 x refl) i || none_succeeded rows (λ k r is. h (suc k) r is) i)

-- rows that wait come behind
pub succeeded_more : (rows fresh : List Row) → ((k : ℕ) (row : Row) → slice_get fresh k ≡ Some row → is_idle row.state ≡ true)
    → is_succeeded (rows ++ fresh) ≡ is_succeeded rows
succeeded_more [] fresh h = none_succeeded fresh h
succeeded_more (x ∷ rows) fresh h = ap (λ (b : Bool). is_accepted x.state || b) (succeeded_more rows fresh h)

-- a group starts
pub succeeded_tried : (rows : List Row) (first count : ℕ)
    → ((k : ℕ) (row : Row) → first ≤ k → k < first + count → slice_get rows k ≡ Some row → is_idle row.state ≡ true)
    → is_succeeded (tried rows first count) ≡ is_succeeded rows
succeeded_tried [] first count h = refl
succeeded_tried (x ∷ rows) zero zero h = refl
succeeded_tried (x ∷ rows) zero (suc count) h =
    let none : false ≡ is_accepted x.state = sym (not_accepted is_idle (λ end. refl) x.state (h 0 x (omega arith) (omega arith) refl)) in
    let rest : is_succeeded (tried rows zero count) ≡ is_succeeded rows =
    succeeded_tried rows zero count (λ k r lo hi is. h (suc k) r (omega arith) (let less : k < 0 + count = hi in omega arith) is) in
    (λ i. none i || rest i)
succeeded_tried (x ∷ rows) (suc first) count h =
    ap (λ (b : Bool). is_accepted x.state || b)
    (succeeded_tried rows first count (λ k r lo hi is. h (suc k) r (let le : first ≤ k = lo in omega arith) (let less : k < first + count = hi in omega arith) is))

never_accepted : (state : State) → is_accepted (never_state state) ≡ is_accepted state
never_accepted state = grind arith

-- rows that wait are never tried
pub succeeded_never : (rows : List Row) → is_succeeded (map never_row rows) ≡ is_succeeded rows
succeeded_never [] = refl
succeeded_never (x ∷ rows) = (λ i. never_accepted x.state i || succeeded_never rows i)

accepted_extras : (end : End) (b : RowExtras) → is_accepted_end (end_with_extras end b) ≡ is_accepted_end end
accepted_extras end b = grind arith

pub succeeded_with_extras : (rows : List Row) (extras : List RowExtras) → is_succeeded (with_extras rows extras) ≡ is_succeeded rows
succeeded_with_extras [] extras = refl
succeeded_with_extras (x ∷ rows) [] = ap (λ (b : Bool). is_accepted x.state || b) (succeeded_with_extras rows [])
succeeded_with_extras (x ∷ rows) (b ∷ extras) = (λ i. state_read is_accepted accepted_extras x.state b i || succeeded_with_extras rows extras i)
