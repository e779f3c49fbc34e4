-- One event at a table (RFC 3261 sections 16.7 to 16.10 and 9.1).
use Rattle.std.specs.Prelude.{ℕ, zero, suc, ◌&&◌, ◌||◌, nat_lt, nat_le, Bool, true, false, not, List, [], ◌∷◌, ◌++◌, Option, Some, None, map, is_none, unwrap_or, slice_get, if◌then◌else◌}
use Rattle.std.specs.Option.{option_map}
use Rattle.fork_model.specs.Table.{Offer, Challenge, End, Stored, Taken, Silent, Never, Accepted, State, Idle, Trying, Rung, Ended, Row, Table, Kind, is_invite}
use Rattle.fork_model.specs.Event.{FinalAnswer, Event, Ring, Answer, Timeout, Fault, TimerC, GiveUp, Cancel}
use Rattle.fork_model.specs.Waiting.{may_start}
use Rattle.fork_model.specs.Contacts.{ContactLists, taking_at, fresh_rows}

-- what an event does to the row that it names: its state, the rows added below it, whether the table closes
pub record Effect : Type 0 where
  pub state : State
  pub fresh : List Row
  pub closes : Bool

abbrev pub moves : State → Effect
moves state = record { state = state; fresh = []; closes = false }

-- an answer that the proxy assumes: 408 for a timeout, 503 for a transport error (sections 16.8, 16.9)
abbrev pub assumed : ℕ → ℕ → Effect
assumed status at =
    moves (Ended (Stored (record { status = status; arrival = at; received = false; left = []; challenges = [] })))

-- an answer that came from the branch
abbrev pub received : ℕ → ℕ → List Offer → List Challenge → End
received status at left challenges =
    Stored (record { status = status; arrival = at; received = true; left = left; challenges = challenges })

-- a 2xx ends the branch and closes the table (section 16.7 step 5)
abbrev pub accepts : ℕ → Effect
accepts at = record { state = Ended (Accepted at); fresh = []; closes = true }

abbrev pub is_nonempty : List Offer → Bool
is_nonempty [] = false
is_nonempty (offer ∷ offers) = true

-- a 3xx is spent where it had a contact and none is left, else it is stored with those left
abbrev pub redirected : ℕ → FinalAnswer → ContactLists → End
redirected at answer taken =
    if is_nonempty answer.offers && not (is_nonempty taken.left) then Taken at
    else received answer.status at taken.left answer.challenges

abbrev pub redirects : ℕ → ℕ → FinalAnswer → ContactLists → Effect
redirects n at answer taken =
    record { state = Ended (redirected at answer taken); fresh = fresh_rows n taken.fresh; closes = false }

-- any other answer is stored; a 6xx closes the table
abbrev pub stores : ℕ → FinalAnswer → Effect
stores at answer = record {
  state = Ended (received answer.status at [] answer.challenges);
  fresh = [];
  closes = nat_le 600 answer.status;
}

-- a final answer to the row n
abbrev pub answers : Table → ℕ → Row → ℕ → FinalAnswer → Effect
answers t n row at answer =
    if nat_lt answer.status 300 then accepts at
    else (if nat_lt answer.status 400 then redirects n at answer (taking_at t row answer.offers)
    else stores at answer)

-- the effect on the named row, by its state; none where the event fits no case
abbrev pub effect : Table → Row → ℕ → Event → State → Option Effect
effect t row at event Idle = None
effect t row at event (Ended end) = None
effect t row at (Ring n status) Trying = Some (moves (Rung false))
effect t row at (Ring n status) (Rung cancelled) = None
effect t row at (Answer n answer) Trying = Some (answers t n row at answer)
effect t row at (Answer n answer) (Rung cancelled) = Some (answers t n row at answer)
effect t row at (Timeout n) Trying = Some (assumed 408 at)
effect t row at (Timeout n) (Rung cancelled) = Some (assumed 408 at)
effect t row at (Fault n) Trying = Some (assumed 503 at)
effect t row at (Fault n) (Rung cancelled) = Some (assumed 503 at)
effect t row at (TimerC n) Trying = if is_invite t.kind then Some (assumed 408 at) else None
effect t row at (TimerC n) (Rung cancelled) =
    if is_invite t.kind && not cancelled then Some (moves (Rung true)) else None
effect t row at (GiveUp n) Trying = None
effect t row at (GiveUp n) (Rung cancelled) = if cancelled then Some (moves (Ended (Silent at))) else None
effect t row at Cancel Trying = None
effect t row at Cancel (Rung cancelled) = None

-- the rows, that of this number in this state
abbrev pub with_state : List Row → ℕ → State → List Row
with_state [] n state = []
with_state (row ∷ rows) zero state = record row { state = state } ∷ rows
with_state (row ∷ rows) (suc n) state = row ∷ with_state rows n state

abbrev pub with_effect : Table → ℕ → Effect → Table
with_effect t n e = record t { closed = t.closed || e.closes; rows = with_state t.rows n e.state ++ e.fresh }

abbrev pub change_at : Table → ℕ → Event → ℕ → Option Row → Option Table
change_at t at event n None = None
change_at t at event n (Some row) = option_map (with_effect t n) (effect t row at event row.state)

-- the caller's CANCEL closes the table of an INVITE (section 16.10)
abbrev pub cancelled : Table → Option Table
cancelled t = if is_invite t.kind && not t.closed then Some (record t { closed = true }) else None

-- the table with the event's own change; none where the event fits no case
abbrev pub change : Table → Event → ℕ → Option Table
change t (Ring n status) at = change_at t at (Ring n status) n (slice_get t.rows n)
change t (Answer n answer) at = change_at t at (Answer n answer) n (slice_get t.rows n)
change t (Timeout n) at = change_at t at (Timeout n) n (slice_get t.rows n)
change t (Fault n) at = change_at t at (Fault n) n (slice_get t.rows n)
change t (TimerC n) at = change_at t at (TimerC n) n (slice_get t.rows n)
change t (GiveUp n) at = change_at t at (GiveUp n) n (slice_get t.rows n)
change t Cancel at = cancelled t

-- in a closed table no row waits, and in one of an INVITE each that has rung gets its CANCEL
abbrev pub closed_state : Kind → State → State
closed_state kind Idle = Ended Never
closed_state kind Trying = Trying
closed_state kind (Rung cancelled) = Rung (cancelled || is_invite kind)
closed_state kind (Ended end) = Ended end

-- in an open one each group that may start is tried
abbrev pub settled_state : Table → Row → State
settled_state t row =
    if t.closed then closed_state t.kind row.state
    else (if may_start t.rows row then Trying
    else row.state)

abbrev pub settled_row : Table → Row → Row
settled_row t row = record row { state = settled_state t row }

abbrev pub settled : Table → Table
settled t = record t { rows = map (settled_row t) t.rows }

-- the table after the event that stands at this position
abbrev pub next : Table → Event → ℕ → Table
next t event at = unwrap_or (option_map settled (change t event at)) t

-- an event that changes nothing; it takes a position all the same
abbrev pub is_stray : Table → Event → ℕ → Bool
is_stray t event at = is_none (change t event at)
