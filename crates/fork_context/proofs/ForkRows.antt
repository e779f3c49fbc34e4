-- What holds of every fork is kept by each change, and what its tree says of its rows holds of the table's.
use Rattle.fork_context.proofs.Common.{◌≡◌, ℕ, zero, suc, ◌+◌, ◌<◌, ◌≤◌, Bool, true, false, List, [], ◌∷◌, length, map, Some, refl, ap, arith, ◌∙◌, sym, subst, slice_get, ◌==◌, ◌||◌, ◌&&◌, nat_eq, list_any, pointwise, option_map, slice_get-map}
use Rattle.fork_context.proofs.Common.{slice_get_within, length-map, State, Rung, Ended, Row, is_ended, is_row, is_finished, is_succeeded, End, Kind, Table, Tree, may_start, with_state, length-state, may_start_facts, plain_state, shown, plain_row}
use Rattle.fork_context.proofs.Common.{RowExtras, with_extras, never_state, never_row, IsReady, tried, IsFork, or-false, common_steps}
use Rattle.fork_tree.specs.Tree.{open_rows}
use Rattle.fork_context.proofs.PlainRows.{may_start-plain_row}
use Rattle.fork_context.proofs.RowsWithExtras.{state_read, test_with_extras, plain_with_extras}
use Rattle.fork_context.proofs.Replies.{row_of_test, length-tried}
use Rattle.fork_context.proofs.Successes.{succeeded_state, succeeded_tried, succeeded_never, not_accepted}

-- ---- rows read

pub key_with_extras : (rows : List Row) (extras : List RowExtras) (n : ℕ) → length extras ≡ length rows
    → option_map (λ (b : RowExtras). b.key) (slice_get extras n) ≡ option_map (λ (row : Row). row.key) (slice_get (with_extras rows extras) n)
key_with_extras [] [] n same = refl
key_with_extras [] (b ∷ extras) n same = absurd (omega arith)
key_with_extras (row ∷ rows) [] n same = absurd (omega arith)
key_with_extras (row ∷ rows) (b ∷ extras) zero same = refl
key_with_extras (row ∷ rows) (b ∷ extras) (suc n) same = key_with_extras rows extras n (omega arith)

-- ---- whether all have ended

not_zero : (k : ℕ) → (suc k == 0) ≡ false
not_zero k = grind arith

pub none_open : (rows : List Row) → (open_rows rows == 0) ≡ is_finished rows
none_open [] = refl
none_open (row ∷ rows) = grind (arith, common_steps, not_zero, none_open rows)

pub finished_with_extras : (rows : List Row) (extras : List RowExtras) → is_finished (with_extras rows extras) ≡ is_finished rows
finished_with_extras [] extras = refl
finished_with_extras (row ∷ rows) [] = ap (λ (b : Bool). is_ended row.state && b) (finished_with_extras rows [])
finished_with_extras (row ∷ rows) (b ∷ extras) = (λ i. state_read is_ended (λ end b. refl) row.state b i && finished_with_extras rows extras i)

-- ---- groups

pub ready_of_plain : (rows : List Row) (first count : ℕ) → IsReady (map plain_row rows) first count → IsReady rows first count
ready_of_plain rows first count ready = record {
  some = ready.some;
  within = (let e : length (map plain_row rows) ≡ length rows = length-map rows plain_row in let w : first + count ≤ length (map plain_row rows) = ready.within in omega arith);
  ready = λ k row lo hi is. sym (may_start-plain_row rows row) ∙ ready.ready k (plain_row row) lo hi (slice_get-map plain_row rows k ∙ ap (option_map plain_row) is);
  whole = λ j k row other lo hi is also p g.
      ready.whole j k (plain_row row) (plain_row other) lo hi (slice_get-map plain_row rows j ∙ ap (option_map plain_row) is) (slice_get-map plain_row rows k ∙ ap (option_map plain_row) also) p g;
}

pub none_of_plain : (rows : List Row) → ((k : ℕ) (row : Row) → slice_get (map plain_row rows) k ≡ Some row → may_start (map plain_row rows) row ≡ false)
    → (k : ℕ) (row : Row) → slice_get rows k ≡ Some row → may_start rows row ≡ false
none_of_plain rows none k row is = grind (arith, common_steps, may_start-plain_row rows row, slice_get-map plain_row rows k)

-- the tree's rows are the table's, bare
pub tree_rows : (rows : List Row) (extras : List RowExtras) → map plain_row rows ≡ rows → map plain_row (with_extras rows extras) ≡ rows
tree_rows rows extras is = plain_with_extras rows extras ∙ is

pub ready_with_extras : (rows : List Row) (extras : List RowExtras) (first count : ℕ) → map plain_row rows ≡ rows → IsReady rows first count
    → IsReady (with_extras rows extras) first count
ready_with_extras rows extras first count is ready =
    let P : List Row → Type 0 = λ rs. IsReady rs first count in
    ready_of_plain (with_extras rows extras) first count (subst P (sym (tree_rows rows extras is)) ready)

pub none_with_extras : (rows : List Row) (extras : List RowExtras) → map plain_row rows ≡ rows
    → ((k : ℕ) (row : Row) → slice_get rows k ≡ Some row → may_start rows row ≡ false)
    → (k : ℕ) (row : Row) → slice_get (with_extras rows extras) k ≡ Some row → may_start (with_extras rows extras) row ≡ false
none_with_extras rows extras is none = grind (arith, common_steps, none_of_plain, tree_rows)

-- ---- what holds of every fork is kept

pub plain_with : (rows : List Row) (n : ℕ) (state : State) → plain_state (shown state) ≡ state → map plain_row rows ≡ rows
    → map plain_row (with_state rows n state) ≡ with_state rows n state
plain_with rows n state plain is = at rows n ∙ (λ i. with_state (is i) n state)
  where
    at : (rows : List Row) (n : ℕ) → map plain_row (with_state rows n state) ≡ with_state (map plain_row rows) n state
    at [] n = refl
    at (row ∷ rows) zero = (λ i. (let r : Row = record { key = []; q = row.q; place = 0; parent = row.parent; group = row.group; state = plain i } in r) ∷ map plain_row rows)
    at (row ∷ rows) (suc n) = ap (λ (rest : List Row). plain_row row ∷ rest) (at rows n)

pub row_within : (test : State → Bool) (rows : List Row) (n : ℕ) → is_row test (slice_get rows n) ≡ true → n < length rows
row_within test rows n e = let row = row_of_test test (slice_get rows n) e in slice_get_within rows n row.0 row.1

-- the table that callers see
abbrev pub table_of : Kind → Bool → List RowExtras → Tree → Table
table_of kind closed extras t = record { kind = kind; rules = t.rules; closed = closed; rows = with_extras t.rows extras }

-- a test that no end passes: where the table's row passes it, so does the tree's
pub tree_row_passes : (test : State → Bool) (kind : Kind) (closed : Bool) (extras : List RowExtras) (t : Tree) (now : Table) (n : ℕ)
    → ((end : End) → test (Ended end) ≡ false) → table_of kind closed extras t ≡ now → is_row test (slice_get now.rows n) ≡ true
    → is_row test (slice_get t.rows n) ≡ true
tree_row_passes test kind closed extras t now n unended is passes = grind (arith, common_steps, test_with_extras)

-- a change of the tree's rows that changes the table's too
pub table_changes : (change : List Row → List Row) (kind : Kind) (closed : Bool) (extras : List RowExtras) (t u : Tree) (now : Table)
    → with_extras (change t.rows) extras ≡ change (with_extras t.rows extras) → table_of kind closed extras t ≡ now → u ≡ record t { rows = change t.rows }
    → table_of kind closed extras u ≡ record now { rows = change now.rows }
table_changes change kind closed extras t u now same is made = grind arith

-- a row that passes such a test rings, or is cancelled
pub fork_rung : (test : State → Bool) (cancelled : Bool) (extras : List RowExtras) (succeeded : Bool) (t u : Tree) (n : ℕ) → IsFork t.rows extras succeeded
    → ((end : End) → test (Ended end) ≡ false) → is_row test (slice_get t.rows n) ≡ true → u ≡ record t { rows = with_state t.rows n (Rung cancelled) }
    → IsFork u.rows extras succeeded
fork_rung test cancelled extras succeeded t u n fork unended passes made =
    let row = row_of_test test (slice_get t.rows n) passes in
    let same = length-state t.rows n (Rung cancelled) in
    subst (λ (x : Tree). IsFork x.rows extras succeeded) (sym made) (record {
      is_plain = plain_with t.rows n (Rung cancelled) refl fork.is_plain;
      each = omega (arith, same, fork.each);
      few = omega (arith, same, fork.few);
      succeeds = fork.succeeds
          ∙ sym (succeeded_state t.rows n row.0 (Rung cancelled) row.1 (not_accepted test unended row.0.state row.2) ∙ or-false (is_succeeded t.rows));
    })

never_plain : (state : State) → plain_state (shown (never_state state)) ≡ never_state (plain_state (shown state))
never_plain state = grind arith

plain_never : (rows : List Row) → map plain_row (map never_row rows) ≡ map never_row (map plain_row rows)
plain_never [] = refl
plain_never (row ∷ rows) =
    (λ i. (let r : Row = record { key = []; q = row.q; place = 0; parent = row.parent; group = row.group; state = never_plain row.state i } in r) ∷ plain_never rows i)

pub fork_closed : (rows : List Row) (extras : List RowExtras) (succeeded : Bool) → IsFork rows extras succeeded → IsFork (map never_row rows) extras succeeded
fork_closed rows extras succeeded fork = grind (arith, common_steps, length-map, plain_never, succeeded_never)

plain_tried : (rows : List Row) (first count : ℕ) → map plain_row (tried rows first count) ≡ tried (map plain_row rows) first count
plain_tried [] first count = refl
plain_tried (row ∷ rows) zero zero = refl
plain_tried (row ∷ rows) zero (suc count) = grind (arith, common_steps, plain_tried rows zero count)
plain_tried (row ∷ rows) (suc first) count = ap (λ (rest : List Row). plain_row row ∷ rest) (plain_tried rows first count)

pub fork_tried : (rows : List Row) (extras : List RowExtras) (succeeded : Bool) (first count : ℕ) → IsFork rows extras succeeded → IsReady rows first count
    → IsFork (tried rows first count) extras succeeded
fork_tried rows extras succeeded first count fork ready = grind (arith, common_steps, length-tried, plain_tried, succeeded_tried, may_start_facts)

-- ---- keys

pub keys_with_extras : (key : List ℕ) (rows : List Row) (extras : List RowExtras) → length extras ≡ length rows
    → list_any (λ (b : RowExtras). pointwise nat_eq key b.key) extras ≡ list_any (λ (row : Row). pointwise nat_eq key row.key) (with_extras rows extras)
keys_with_extras key [] [] same = refl
keys_with_extras key [] (b ∷ extras) same = absurd (omega arith)
keys_with_extras key (row ∷ rows) [] same = absurd (omega arith)
keys_with_extras key (row ∷ rows) (b ∷ extras) same = ap (λ (x : Bool). pointwise nat_eq key b.key || x) (keys_with_extras key rows extras (omega arith))
