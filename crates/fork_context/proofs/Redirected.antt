-- A redirection, made of new rows and of their extras.
use Rattle.fork_context.proofs.Common.{◌≡◌, ℕ, ◌+◌, ◌≤◌, List, length, map, Some, arith, length-map, filter_map, Offer, Row, Table, most_targets, numbered, taking_at, fresh_rows, Waiting, waiting_row, new_rows_of, RowExtras, with_extras}
use Rattle.fork_context.proofs.Common.{row_extras_at, contact_qs, q_of_pair, common_steps}
use Rattle.fork_context.proofs.AddedRows.{added_rows, added_sizes}
use Rattle.fork_context.proofs.PlainContacts.{few_from}

-- the new rows of the contacts that become targets, and their extras
pub record AreBelow (n : ℕ) (fresh : List (ℕ × Offer)) (added : Waiting) (extras : List RowExtras) : Type 0 where
  pub rows : with_extras (map (waiting_row (Some n)) added.new_rows) extras ≡ fresh_rows n fresh
  pub each : length extras ≡ length added.new_rows

pub are_below : (n first : ℕ) (fresh : List (ℕ × Offer)) (added : Waiting) (extras : List RowExtras)
    → added ≡ record { first = first; new_rows = new_rows_of (map (q_of_pair (contact_qs fresh)) (numbered (contact_qs fresh))) }
    → extras ≡ filter_map (row_extras_at fresh) (numbered (contact_qs fresh)) → AreBelow n fresh added extras
are_below n first fresh added extras a b = grind (arith, common_steps, added_rows, added_sizes)

-- no more contacts become targets than there is room
pub taking_at_few : (t : Table) (row : Row) (offers : List Offer) → length t.rows ≤ most_targets
    → length t.rows + length (taking_at t row offers).fresh ≤ most_targets
taking_at_few t row offers few = grind (arith, common_steps, length-map, few_from)
