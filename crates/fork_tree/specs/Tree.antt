-- A tree of branches as callers see it: the rules, and a row for each branch, the row's number being its place in the
-- list. Keys, places, contacts and challenges stand beside the tree, so its rows have none.
use Rattle.std.specs.Prelude.{◌+◌, ℕ, Bool, false, not, List, [], ◌∷◌, Option, Some, None, if◌then◌else◌}
use Rattle.fork_model.specs.Table as spec
use Rattle.fork_model.specs.Table.{Row, Rules, is_ended}
use Rattle.fork_model.specs.Rank.{Score}
use Rattle.fork_model.specs.Choice.{IsFirst, NoneStored}
use Rattle.fork_tree.specs.declared.summary.BestRef.{BestRef}
use Rattle.fork_tree.specs.declared.row.RowRef.{RowRef}
use Rattle.fork_tree.specs.States.{plain_state, shown}

pub record Tree : Type 0 where
  pub rules : Rules
  pub rows : List Row

-- a row as the tree keeps it
abbrev pub plain_row : Row → Row
plain_row row = record {
  key = [];
  q = row.q;
  place = 0;
  parent = row.parent;
  group = row.group;
  state = plain_state (shown row.state);
}

-- row n as a caller sees it
abbrev pub row_ref : ℕ → Row → RowRef
row_ref n row = record { no = n; parent = row.parent; group = row.group; q = row.q; state = shown row.state }

-- the rows that have not ended
abbrev pub open_rows : List Row → ℕ
open_rows [] = 0
open_rows (row ∷ rows) = (if is_ended row.state then 0 else 1) + open_rows rows

abbrev pub score_of_ref : BestRef → Score
score_of_ref b = record { status = b.status; arrival = b.arrival }

-- the stored answer that none ranks before; None where none is stored
abbrev pub IsBest : Rules → List Row → Option BestRef → Type 0
IsBest rules rows None = NoneStored rows
IsBest rules rows (Some b) = IsFirst rules rows b.no (score_of_ref b)

-- it was tried, and its CANCEL was not sent
abbrev pub is_uncancelled : spec.State → Bool
is_uncancelled spec.Idle = false
is_uncancelled spec.Trying = false
is_uncancelled (spec.Rung cancelled) = not cancelled
is_uncancelled (spec.Ended end) = false
