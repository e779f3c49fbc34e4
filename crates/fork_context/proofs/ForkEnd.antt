-- A row ends, and new rows come below it.
use Rattle.fork_context.proofs.Common.{◌≡◌, ℕ, zero, suc, ◌+◌, ◌<◌, ◌≤◌, Bool, true, List, [], ◌∷◌, ◌++◌, length, map, Option, Some, refl, ap, arith, ◌∙◌, sym, length-append, slice_get, ◌||◌, length-map, Offer, Challenge, State, Ended, Row}
use Rattle.fork_context.proofs.Common.{most_targets, is_open, is_idle, is_row, with_state, length-state, end_of, plain_state, shown, NewRow, waiting_row, plain_row, RowExtras, end_with_extras, with_extras, with_row_extras, Kind, Table, Tree, IsFork}
use Rattle.fork_context.proofs.Common.{accepts_end, is_accepted_end, map-append, common_steps}
use Rattle.fork_tree.specs.declared.row.End.{End}
use Rattle.context_values.proofs.laws.RowExtras.{length-with_row_extras}
use Rattle.fork_context.proofs.RowsWithExtras.{with_extras_append, with_extras_end, length-with_extras}
use Rattle.fork_context.proofs.ForkRows.{table_of, tree_row_passes, plain_with, row_within}
use Rattle.fork_context.proofs.Replies.{row_of_test}
use Rattle.fork_context.proofs.Successes.{succeeded_state, succeeded_more, not_accepted}

-- an end with what stands beside it, shown, and whether it is that of a 2xx
of_end : (e : End) → ((c : RowExtras) → end_with_extras (end_of e [] []) c ≡ end_of e c.left c.challenges)
    × (plain_state (shown (Ended (end_of e [] []))) ≡ Ended (end_of e [] [])) × (is_accepted_end (end_of e [] []) ≡ accepts_end e)
of_end e = grind arith

row_extras_before : (extras fresh : List RowExtras) (n : ℕ) (left : List Offer) (challenges : List Challenge) → n < length extras
    → with_row_extras (extras ++ fresh) n left challenges ≡ with_row_extras extras n left challenges ++ fresh
row_extras_before [] fresh n left challenges lt = absurd (omega arith)
row_extras_before (b ∷ extras) fresh zero left challenges lt = refl
row_extras_before (b ∷ extras) fresh (suc n) left challenges lt = ap (λ (rest : List RowExtras). b ∷ rest) (row_extras_before extras fresh n left challenges (omega arith))

-- the rows of the table, where row n has ended in the tree and the new rows stand behind
pub ended_rows : (rows more : List Row) (extras fresh : List RowExtras) (n : ℕ) (e : End) (left : List Offer) (challenges : List Challenge)
    → length extras ≡ length rows → n < length extras
    → with_extras (with_state rows n (Ended (end_of e [] [])) ++ more) (with_row_extras (extras ++ fresh) n left challenges)
    ≡ with_state (with_extras rows extras) n (Ended (end_of e left challenges)) ++ with_extras more fresh
ended_rows rows more extras fresh n e left challenges same lt =
    let c : RowExtras = record { key = []; place = 0; left = left; challenges = challenges } in
    grind (arith, common_steps, length-with_row_extras extras n left challenges, length-state rows n (Ended (end_of e [] [])), row_extras_before extras fresh n left challenges lt, with_extras_end rows extras n (end_of e [] []) c same, of_end e, with_extras_append)

pub plain_waiting_row : (parent : Option ℕ) (new_rows : List NewRow) → map plain_row (map (waiting_row parent) new_rows) ≡ map (waiting_row parent) new_rows
plain_waiting_row parent [] = refl
plain_waiting_row parent (new_row ∷ new_rows) = ap (λ (rest : List Row). waiting_row parent new_row ∷ rest) (plain_waiting_row parent new_rows)

pub waiting_row_idle : (parent : Option ℕ) (new_rows : List NewRow) (k : ℕ) (row : Row) → slice_get (map (waiting_row parent) new_rows) k ≡ Some row → is_idle row.state ≡ true
waiting_row_idle parent [] k row is = absurd cc
waiting_row_idle parent (new_row ∷ new_rows) zero row is = let same : waiting_row parent new_row ≡ row = cc in sym (ap (λ (r : Row). is_idle r.state) same)
waiting_row_idle parent (new_row ∷ new_rows) (suc k) row is = waiting_row_idle parent new_rows k row is

pub fork_ended : (rows : List Row) (extras fresh : List RowExtras) (succeeded : Bool) (n : ℕ) (e : End) (left : List Offer) (challenges : List Challenge) (new_rows : List NewRow)
    → IsFork rows extras succeeded → is_row is_open (slice_get rows n) ≡ true → length fresh ≡ length new_rows → length rows + length new_rows ≤ most_targets
    → n < length extras
    → IsFork (with_state rows n (Ended (end_of e [] [])) ++ map (waiting_row (Some n)) new_rows) (with_row_extras (extras ++ fresh) n left challenges) (succeeded || accepts_end e)
fork_ended rows extras fresh succeeded n e left challenges new_rows fork open_yet same few lt =
    let row = row_of_test is_open (slice_get rows n) open_yet in
    let ends : State = Ended (end_of e [] []) in
    let a = length-append (with_state rows n ends) (map (waiting_row (Some n)) new_rows) in
    let b = length-state rows n ends in
    let c = length-map new_rows (waiting_row (Some n)) in
    let d = length-with_row_extras (extras ++ fresh) n left challenges in
    let f = length-append extras fresh in
    record {
      is_plain = map-append plain_row (with_state rows n ends) (map (waiting_row (Some n)) new_rows)
          ∙ (λ i. plain_with rows n ends (of_end e).1 fork.is_plain i ++ plain_waiting_row (Some n) new_rows i);
      each = omega (arith, a, b, c, d, f, fork.each, same);
      few = omega (arith, a, b, c, few);
      succeeds = (λ i. fork.succeeds i || sym (of_end e).2 i)
          ∙ sym (succeeded_more (with_state rows n ends) (map (waiting_row (Some n)) new_rows) (waiting_row_idle (Some n) new_rows)
          ∙ succeeded_state rows n row.0 ends row.1 (not_accepted is_open (λ end. refl) row.0.state row.2));
    }

pub fork_same : (rows rows' : List Row) (extras extras' : List RowExtras) (flag flag' : Bool) → rows' ≡ rows → extras' ≡ extras → flag' ≡ flag
    → IsFork rows extras flag → IsFork rows' extras' flag'
fork_same rows rows' extras extras' flag flag' r b f fork = grind arith

-- what is known where row n of a fork is to end
pub record IsEnding (extras : List RowExtras) (t : Tree) (now : Table) (n : ℕ) : Type 0 where
  pub passes : is_row is_open (slice_get t.rows n) ≡ true
  pub sizes : length now.rows ≡ length t.rows
  pub within : n < length extras

pub ending : (kind : Kind) (closed : Bool) (extras : List RowExtras) (t : Tree) (now : Table) (n : ℕ) (succeeded : Bool) → IsFork t.rows extras succeeded
    → table_of kind closed extras t ≡ now → is_row is_open (slice_get now.rows n) ≡ true → IsEnding extras t now n
ending kind closed extras t now n succeeded fork is open_yet =
    let passes = tree_row_passes is_open kind closed extras t now n (λ end. refl) is open_yet in
    grind (arith, common_steps, length-with_extras, row_within)
