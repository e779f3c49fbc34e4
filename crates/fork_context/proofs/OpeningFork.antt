-- The new rows of the initial targets, with the extras of each, are their rows; the first group starts.
use Rattle.fork_context.proofs.Common.{◌≡◌, ℕ, ◌≤◌, false, List, length, map, Option, Some, None, refl, arith, ◌∙◌, slice_get, IfSome, IfNone, filter_map, length-map, Kind, Rules, Row, Table, most_targets, numbered, may_start, Target, opening}
use Rattle.fork_context.proofs.Common.{numbered_places, NewRow, waiting_row, new_rows_of, with_extras, q_of_pair, IsFork, idled, waiting_rows, waiting_table, extras_of_target, target_extras, IsReady, tried, common_steps, rules}
use Rattle.fork_model.specs.History.{first_row}
use Rattle.fork_context.proofs.AddedRows.{rows_made, length_extras}
use Rattle.fork_context.proofs.ForkEnd.{plain_waiting_row, waiting_row_idle}
use Rattle.fork_context.proofs.OpeningStarts.{opening_settled, opening_one_group}
use Rattle.fork_context.proofs.NewRowGroups.{new_rows_numbered, length_new_rows, length_in_order}
use Rattle.fork_context.proofs.Settling.{settled_none, settled_group}
use Rattle.fork_context.proofs.Successes.{none_succeeded}

abbrev pub target_qs : List Target → List ℕ
target_qs targets = map (λ (target : Target). target.q) targets

abbrev pub target_new_rows : List Target → List NewRow
target_new_rows targets = new_rows_of (map (q_of_pair (target_qs targets)) (numbered (target_qs targets)))

pub opening_with_extras : (targets : List Target)
    → with_extras (map (waiting_row None) (target_new_rows targets)) (filter_map (target_extras targets) (numbered (target_qs targets))) ≡ waiting_rows targets
opening_with_extras targets =
    rows_made (λ t. t.q) extras_of_target (λ p t. first_row p.0 p.1 t) idled None (λ p t. refl) targets (numbered (target_qs targets)) (target_new_rows targets)
    (numbered_places (target_qs targets)) (new_rows_numbered (target_qs targets))

pub length_ordered : (targets : List Target) → length (map (q_of_pair (target_qs targets)) (numbered (target_qs targets))) ≡ length targets
length_ordered targets = length_in_order (target_qs targets) ∙ length-map targets (λ (t : Target). t.q)

pub opening_fork : (targets : List Target) → length targets ≤ most_targets
    → IsFork (map (waiting_row None) (target_new_rows targets)) (filter_map (target_extras targets) (numbered (target_qs targets))) false
opening_fork targets few =
    let qs = target_qs targets in
    let one : length (filter_map (target_extras targets) (numbered qs)) ≡ length (numbered qs) =
    length_extras (λ (t : Target). t.q) extras_of_target targets (numbered qs) (numbered_places qs) in
    grind (arith, common_steps, length-map (numbered qs) (q_of_pair qs), length_new_rows None 0 0 (map (q_of_pair qs) (numbered qs)), length_ordered targets, plain_waiting_row, none_succeeded, waiting_row_idle)

-- the first group started
pub opened : (kind : Kind) (rules : Rules) (targets : List Target) (t after : Table) (result : Option (ℕ × ℕ)) → t ≡ waiting_table kind rules targets
    → IfNone result ((after ≡ t) × ((k : ℕ) (row : Row) → slice_get t.rows k ≡ Some row → may_start t.rows row ≡ false))
    → IfSome result (λ (g : ℕ × ℕ). IsReady t.rows g.0 g.1 × (after ≡ record t { rows = tried t.rows g.0 g.1 }))
    → after ≡ opening kind rules targets
opened kind rules targets t after result is none some = grind (arith, common_steps, opening_settled kind rules targets, opening_one_group targets, settled_none, settled_group)
