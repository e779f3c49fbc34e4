-- How a call knows at once whether something is due: a moment for each row, and the least of them.
use Rattle.std.specs.Prelude.{ℕ, ◌&&◌, Bool, true, false, List, [], ◌∷◌, Option, Some, None, is_none, if◌then◌else◌}
use Rattle.fork_model.specs.Table.{Row, is_row, is_trying, is_cancelled}
use Rattle.sip_txn.specs.Timers.{earlier}
use Rattle.call_model.specs.Client as client
use Rattle.call_model.specs.Branch.{Branch}
use Rattle.call_model.specs.Call.{Call, rows_of, runs_timer_c, give_up_of, owes_ack_on}
use Rattle.call_model.specs.Due.{cancel_client_due}

abbrev pub if_runs : Bool → Option ℕ → Option ℕ
if_runs true at = at
if_runs false at = None

-- what a branch waits for that owes nothing
abbrev pub branch_waits : (cancelled runs_c : Bool) → Branch → Option ℕ
branch_waits cancelled runs_c branch =
    earlier (client.client_due branch.client)
    (earlier (cancel_client_due branch.cancelling)
    (earlier (if_runs runs_c branch.timer_c_at)
    (if_runs cancelled (give_up_of branch.cancelling))))

-- the moment from which something is to be done on a row: what is owed is to be done at any
abbrev pub row_due : (trying cancelled runs_c : Bool) → Option Branch → Option ℕ
row_due trying cancelled runs_c None = if_runs trying (Some 0)
row_due trying cancelled runs_c (Some branch) =
    if owes_ack_on (Some branch) then Some 0
    else (if cancelled && is_none branch.cancelling then Some 0
    else branch_waits cancelled runs_c branch)

abbrev pub due_of : Option Row → Option Branch → Option ℕ
due_of row branch = row_due (is_row is_trying row) (is_row is_cancelled row) (is_row runs_timer_c row) branch

-- a moment for each row
abbrev pub moments_of : List Row → List (Option Branch) → List (Option ℕ)
moments_of [] branches = []
moments_of (row ∷ rows) [] = due_of (Some row) None ∷ moments_of rows []
moments_of (row ∷ rows) (branch ∷ branches) = due_of (Some row) branch ∷ moments_of rows branches

abbrev pub scheduled : Call → List (Option ℕ)
scheduled call = moments_of (rows_of call) call.branches
