-- A table after one event, and what the reply to it names (RFC 3261 sections 16.7 to 16.10).
use Rattle.std.specs.Prelude.{◌≡◌, ◌≤◌, ◌+◌, ℕ, ◌&&◌, ◌||◌, ◌⊎◌, Bool, true, false, not, List, [], ◌∷◌, Option, Some, None, filter, length, map, vec_capacity, if◌then◌else◌}
use Rattle.fork_model.specs.Table.{Row, Table, Rung, is_trying, is_cancelled, is_finished, is_succeeded}
use Rattle.fork_model.specs.Event.{Event}
use Rattle.fork_model.specs.Groups.{numbers_below}
use Rattle.fork_model.specs.Choice.{IsChoice}
use Rattle.fork_model.specs.Step.{next, with_state}
use Rattle.fork_model.specs.Reply.{Up, Nothing, Provisional, Success, Final, became}
use Rattle.fork_context.specs.Closing.{closed_row}
use Rattle.fork_context.specs.inner.Closing.{gets_cancel}
use Rattle.fork_context.specs.inner.Ready.{Starts}
use Rattle.context_values.specs.declared.reply.Numbers.{Numbers}

-- the table after the event, the rows tried since, and those cancelled since
pub record IsStepped (t : Table) (event : Event) (at : ℕ) (after : Table) (begun ended : List ℕ) : Type 0 where
  pub leads : after ≡ next t event at
  pub started : begun ≡ became is_trying t.rows after.rows
  pub cancelled : ended ≡ became is_cancelled t.rows after.rows

-- no number yet, and room for those of all rows, and for one that is cancelled beside
abbrev pub HasRoom : {A : Type 0} → Numbers A → List Row → Type 0
HasRoom numbers rows = (numbers.rows.items ≡ []) × (numbers.cancelled ≡ 0) × (length rows + 1 ≤ vec_capacity numbers.rows)

abbrev pub number_if : Bool → ℕ → List ℕ
number_if b n = if b then n ∷ [] else []

-- row n gets its CANCEL where it has rung in a closed table of an INVITE
abbrev pub cancelled_at : ℕ → Table → Table
cancelled_at n u = if gets_cancel u.kind u.rows n then record u { rows = with_state u.rows n (Rung true) } else u

-- what follows the change of row n: nothing more starts in a table that was closed; one that the change closed closes
-- its other rows; in an open one some group may start. The row's own CANCEL is sent where the change itself sent it, or
-- where it has rung too late
abbrev pub IsSettled : ℕ → Bool → Bool → Table → Table → List ℕ → List ℕ → Type 0
IsSettled n was_closed cancels u v started cancelled =
    ((was_closed ≡ true) × (v ≡ cancelled_at n u) × (started ≡ []) × (cancelled ≡ number_if (gets_cancel u.kind u.rows n || cancels) n))
    ⊎ (((was_closed ≡ false) × (u.closed ≡ true) × (v ≡ record u { closed = true; rows = map (closed_row u.kind) u.rows }) × (started ≡ [])
    × (cancelled ≡ filter (gets_cancel u.kind u.rows) (numbers_below (length u.rows))))
    ⊎ ((was_closed ≡ false) × (u.closed ≡ false) × Starts u v started × (cancelled ≡ number_if cancels n)))

-- what goes up, by the provisional answer and the 2xx that go up at once, and by whether all had ended before
abbrev pub IsUpOf : Option ℕ → Option ℕ → Bool → Table → Up → Type 0
IsUpOf provisional success was_finished t (Provisional n) = provisional ≡ Some n
IsUpOf provisional success was_finished t (Success n) = (provisional ≡ None) × (success ≡ Some n)
IsUpOf provisional success was_finished t (Final choice) =
    (provisional ≡ None)
    × (success ≡ None)
    × ((is_finished t.rows && not was_finished && not (is_succeeded t.rows)) ≡ true)
    × IsChoice t.rules t.rows choice
IsUpOf provisional success was_finished t Nothing =
    (provisional ≡ None) × (success ≡ None) × ((is_finished t.rows && not was_finished && not (is_succeeded t.rows)) ≡ false)
