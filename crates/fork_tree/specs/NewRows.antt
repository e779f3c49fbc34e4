-- Where rows go that are tried by falling q, those of one q together (RFC 3261 section 16.6).
use Rattle.std.specs.Prelude.{◌≡◌, ◌≤◌, ◌+◌, length, ◌==◌, ℕ, suc, Bool, false, not, List, [], ◌∷◌, Option, Some, None, if◌then◌else◌}
use Rattle.fork_model.specs.Table.{Row, Idle, most_targets}
use Rattle.fork_tree.specs.declared.new_row.NewRow.{NewRow}
use Rattle.fork_tree.specs.declared.summary.BranchState.{BranchState}
use Rattle.fork_tree.specs.declared.row.State.TheVariants as state
use Rattle.fork_tree.specs.Rows.{Entry, unanswered}

-- rows that wait: the number of the first, and the group, the place in it and the q of each
pub record Waiting : Type 0 where
  pub first : ℕ
  pub new_rows : List NewRow

-- another q begins another group
abbrev pub differs : Option ℕ → ℕ → Bool
differs None q = false
differs (Some before) q = not (before == q)

abbrev pub new_rows_with : Bool → ℕ → ℕ → ℕ → (Option ℕ → ℕ → ℕ → List NewRow) → List NewRow
new_rows_with breaks group place q rest =
    if breaks then record { group = suc group; place = 0; q = q } ∷ rest (Some q) (suc group) 1
    else record { group = group; place = place; q = q } ∷ rest (Some q) group (suc place)

-- after a row of this q, where the group has so many rows
abbrev pub new_rows_from : Option ℕ → ℕ → ℕ → List ℕ → List NewRow
new_rows_from before group place [] = []
new_rows_from before group place (q ∷ qs) =
    new_rows_with (differs before q) group place q (λ b g p. new_rows_from b g p qs)

abbrev pub new_rows_of : List ℕ → List NewRow
new_rows_of qs = new_rows_from None 0 0 qs

-- the row that a new row is, which waits
abbrev pub waiting_row : Option ℕ → NewRow → Row
waiting_row parent new_row =
    record { key = []; q = new_row.q; place = 0; parent = parent; group = new_row.group; state = Idle }

abbrev pub idle : BranchState
idle = unanswered state.Idle

-- the same as branches, numbered from here on
abbrev pub new_entries : ℕ → List NewRow → List Entry
new_entries n [] = []
new_entries n (new_row ∷ new_rows) =
    record { path = new_row.group ∷ new_row.place ∷ []; cell = record { number = n; q = new_row.q; standing = idle } }
    ∷ new_entries (suc n) new_rows

-- what is made of new rows before they come into a tree
pub record AreNewRows (first : ℕ) (new_rows : List NewRow) (rows : List Entry) : Type 0 where
  pub waiting_row : rows ≡ new_entries first new_rows
  pub rising : (qs : List ℕ) × (new_rows ≡ new_rows_of qs)
  pub few : first + length new_rows ≤ most_targets
