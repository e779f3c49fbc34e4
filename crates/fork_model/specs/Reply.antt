-- What is answered to an event, read off the tables before and after it (RFC 3261 section 16.7 steps 5, 6
-- and 10).
use Rattle.std.specs.Prelude.{◌≡◌, ℕ, ◌&&◌, ◌||◌, nat_lt, Bool, true, false, not, List, filter, length, Option, Some, None, slice_get, if◌then◌else◌}
use Rattle.fork_model.specs.Table.{Kind, Invite, Other, Row, Table, State, is_trying, is_cancelled, is_open, is_accepted, is_finished, is_succeeded, is_row}
use Rattle.fork_model.specs.Groups.{numbers_below}
use Rattle.fork_model.specs.Event.{FinalAnswer, Event, Ring, Answer, Timeout, Fault, TimerC, GiveUp, Cancel}
use Rattle.fork_model.specs.Step.{next}
use Rattle.fork_model.specs.Choice.{Choice, IsChoice}

-- what goes up to the caller: nothing, the provisional answer or the 2xx of row n, the final answer
pub data Up : Type 0 where
  Nothing : Up
  Provisional : (n : ℕ) → Up
  Success : (n : ℕ) → Up
  Final : Choice → Up

-- the event's position, the rows to send the request to, the rows to send a CANCEL to, what goes up
pub record Reply : Type 0 where
  pub at : ℕ
  pub started : List ℕ
  pub cancelled : List ℕ
  pub up : Up

-- whether row n passes the test now, and did not before, or was not there
abbrev pub has_become : (State → Bool) → List Row → List Row → ℕ → Bool
has_become test old new n = is_row test (slice_get new n) && not (is_row test (slice_get old n))

abbrev pub became : (State → Bool) → List Row → List Row → List ℕ
became test old new = filter (has_become test old new) (numbers_below (length new))

-- a provisional answer other than 100 goes up, from a row that was tried, while no 2xx has come
abbrev pub provisional : Table → Event → Option ℕ
provisional old (Ring n status) =
    if nat_lt 100 status && is_row is_open (slice_get old.rows n) && not (is_succeeded old.rows) then Some n else None
provisional old (Answer n answer) = None
provisional old (Timeout n) = None
provisional old (Fault n) = None
provisional old (TimerC n) = None
provisional old (GiveUp n) = None
provisional old Cancel = None

-- of an INVITE each 2xx goes up, a repeated one again; else the first that ends a row, alone
abbrev pub success_goes_up : Table → Kind → Option Row → Bool
success_goes_up old Invite row = is_row is_open row || is_row is_accepted row
success_goes_up old Other row = is_row is_open row && not (is_succeeded old.rows)

abbrev pub success_at : Table → ℕ → FinalAnswer → Option ℕ
success_at old n answer =
    if nat_lt answer.status 300 && success_goes_up old old.kind (slice_get old.rows n) then Some n else None

abbrev pub success : Table → Event → Option ℕ
success old (Ring n status) = None
success old (Answer n answer) = success_at old n answer
success old (Timeout n) = None
success old (Fault n) = None
success old (TimerC n) = None
success old (GiveUp n) = None
success old Cancel = None

-- the last branch ended just now, and no 2xx came
abbrev pub finishes : Table → Table → Bool
finishes old new = is_finished new.rows && not (is_finished old.rows) && not (is_succeeded new.rows)

-- the cases in their order, each where none before it holds
abbrev pub IsUp : Table → Event → Table → Up → Type 0
IsUp old event new (Provisional n) = provisional old event ≡ Some n
IsUp old event new (Success n) = (provisional old event ≡ None) × (success old event ≡ Some n)
IsUp old event new (Final choice) =
    (provisional old event ≡ None)
    × (success old event ≡ None)
    × (finishes old new ≡ true)
    × IsChoice new.rules new.rows choice
IsUp old event new Nothing =
    (provisional old event ≡ None) × (success old event ≡ None) × (finishes old new ≡ false)

-- the reply to the event that stands at this position
pub record IsReply (old : Table) (event : Event) (at : ℕ) (reply : Reply) : Type 0 where
  pub position : reply.at ≡ at
  pub started : reply.started ≡ became is_trying old.rows (next old event at).rows
  pub cancelled : reply.cancelled ≡ became is_cancelled old.rows (next old event at).rows
  pub up : IsUp old event (next old event at) reply.up
