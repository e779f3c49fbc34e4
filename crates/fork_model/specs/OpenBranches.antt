-- What a branch that is open still takes, and what the events of other branches do to it (RFC 3261 sections 9.1 and
-- 16.7 to 16.10).
use Rattle.std.specs.Prelude.{◌≡◌, ◌⊎◌, ℕ, ◌&&◌, Bool, true, false, not, Some, slice_get}
use Rattle.fork_model.specs.Table.{State, Idle, Trying, Rung, Ended, Never, Row, Table, is_invite, is_trying, is_cancelled, is_open, is_row}
use Rattle.fork_model.specs.Event.{Event, Ring, Answer, Timeout, Fault, TimerC, GiveUp, Cancel, row_named}
use Rattle.fork_model.specs.Step.{next, is_stray}
use Rattle.fork_model.specs.Core.{Core, is_full}

-- whether row n is there, in a state that passes the test
abbrev pub is_at : (State → Bool) → Table → ℕ → Bool
is_at test t n = is_row test (slice_get t.rows n)

-- it was tried and has not ended, and no CANCEL was sent to it
abbrev pub is_pending : State → Bool
is_pending state = is_open state && not (is_cancelled state)

-- whether the event is one for the branch that it names as that branch stands, or for the fork: a first provisional
-- where it is tried; an answer, a timeout or a transport error where it is open; timer C, which an INVITE alone has,
-- until its CANCEL is sent, and from then on the end of the wait for an answer; the caller's CANCEL of an INVITE once
abbrev pub fits : Table → Event → Bool
fits t (Ring n status) = is_at is_trying t n
fits t (Answer n answer) = is_at is_open t n
fits t (Timeout n) = is_at is_open t n
fits t (Fault n) = is_at is_open t n
fits t (TimerC n) = is_invite t.kind && is_at is_pending t n
fits t (GiveUp n) = is_at is_cancelled t n
fits t Cancel = is_invite t.kind && not t.closed

-- these events change the table, and no others
abbrev pub EventsFitOrStray : Type 0
EventsFitOrStray = (t : Table) (event : Event) (at : ℕ) → is_stray t event at ≡ not (fits t event)

-- so none of them is refused, however many events were taken
abbrev pub FittingEventsAreTaken : Type 0
FittingEventsAreTaken = (core : Core) (event : Event) → fits core.table event ≡ true → is_full core event ≡ false

-- what becomes of a branch by an event that does not name it, in the table after it: where it waits it may be tried,
-- or, in a closed table, is never tried; where it has rung it may get its CANCEL, in a closed table of an INVITE; else it
-- stays as it is
abbrev pub IsLeftAt : Table → State → State → Type 0
IsLeftAt t Idle new = (new ≡ Idle) ⊎ (((new ≡ Trying) × (t.closed ≡ false)) ⊎ ((new ≡ Ended Never) × (t.closed ≡ true)))
IsLeftAt t Trying new = new ≡ Trying
IsLeftAt t (Rung cancelled) new =
    (new ≡ Rung cancelled) ⊎ ((new ≡ Rung true) × (t.closed ≡ true) × (is_invite t.kind ≡ true))
IsLeftAt t (Ended end) new = new ≡ Ended end

abbrev pub OthersAreLeft : Type 0
OthersAreLeft =
    (t : Table) (event : Event) (at n : ℕ) (row : Row) → (row_named event ≡ Some n → ⊥) → slice_get t.rows n ≡ Some row
    → (new : Row) × (slice_get (next t event at).rows n ≡ Some new) × IsLeftAt (next t event at) row.state new.state

-- so no branch is ended by an event that names another, nor by the caller's CANCEL
abbrev pub OthersStayOpen : Type 0
OthersStayOpen =
    (t : Table) (event : Event) (at n : ℕ) → (row_named event ≡ Some n → ⊥) → is_at is_open t n ≡ true
    → is_at is_open (next t event at) n ≡ true
