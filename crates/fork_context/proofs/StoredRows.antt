-- The stored answers of a tree's rows are those of its table.
use Rattle.fork_context.proofs.Common.{◌≡◌, ℕ, List, ◌∙◌, sym, slice_get, option_map, Row, Rules, End, stored_of, stored_at, IsFirst, NoneStored, RowExtras, end_with_extras, with_extras, common_steps, arith, rules}
use Rattle.fork_context.proofs.RowsWithExtras.{state_read, row_read}
use Rattle.fork_model.specs.Table.{stored_end}
use Rattle.fork_model.specs.Rank.{Score}
use Rattle.fork_model.specs.Choice.{score_of, status_at}

by_end : (end : End) (b : RowExtras) → option_map score_of (stored_end (end_with_extras end b)) ≡ option_map score_of (stored_end end)
by_end end b = grind arith

pub score_with_extras : (rows : List Row) (extras : List RowExtras) (n : ℕ)
    → option_map score_of (stored_at (slice_get (with_extras rows extras) n)) ≡ option_map score_of (stored_at (slice_get rows n))
score_with_extras = row_read (λ o. option_map score_of (stored_at o)) (λ row b. state_read (λ state. option_map score_of (stored_of state)) by_end row.state b)

pub first_with_extras : (rules : Rules) (rows : List Row) (extras : List RowExtras) (n : ℕ) (score : Score) → IsFirst rules rows n score
    → IsFirst rules (with_extras rows extras) n score
first_with_extras rules rows extras n score first = grind (arith, common_steps, score_with_extras)

pub none_with_extras : (rows : List Row) (extras : List RowExtras) → NoneStored rows → NoneStored (with_extras rows extras)
none_with_extras rows extras none m score has = none m score (sym (score_with_extras rows extras m) ∙ has)

-- the status of the answer that none ranks before
pub status_of_first : (rules : Rules) (rows : List Row) (extras : List RowExtras) (n : ℕ) (score : Score) → IsFirst rules rows n score
    → status_at (slice_get (with_extras rows extras) n) ≡ score.status
status_of_first rules rows extras n score first = grind (arith, common_steps, score_with_extras)
