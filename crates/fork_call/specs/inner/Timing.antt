-- A step of a call touches few rows: these alone are timed anew.
-- Here: what no public contract reaches.
use Rattle.std.specs.Prelude.{ℕ, ◌++◌, List, [], ◌∷◌, Option, Some, None, fold, length, slice_get, slice_set, take, if◌then◌else◌}
use Rattle.call_model.specs.declared.cause.Cause.{Cause}
use Rattle.call_model.specs.declared.cause.Cause.TheVariants as cause
use Rattle.call_model.specs.Call.{Call, nth_branch, rows_of}
use Rattle.call_model.specs.Due as due
use Rattle.call_model.specs.Due.{Action}
use Rattle.fork_model.specs.Table.{most_targets}
use Rattle.call_model.specs.Response.{is_redirection}
use Rattle.call_model.specs.Take as to
use Rattle.call_model.specs.Take.{MatchedTransaction}
use Rattle.fork_call.specs.Scheduled.{due_of}
use Rattle.fork_call.specs.inner.Scheduled.{rows_in}

-- from when on something is to be done on row n of a call
abbrev pub row_moment : Call → ℕ → Option ℕ
row_moment call n = due_of (slice_get (rows_of call) n) (nth_branch call n)

-- these rows are timed anew
abbrev pub timed_at : Call → List (Option ℕ) → ℕ → List (Option ℕ)
timed_at call moments n = slice_set moments n (row_moment call n)

abbrev pub timed : Call → List ℕ → List (Option ℕ) → List (Option ℕ)
timed call rows moments = fold (timed_at call) moments rows

-- ---- which rows a step touches

-- the row on which something is done
abbrev pub row_of_action : Action → Option ℕ
row_of_action (due.SendRequest n) = Some n
row_of_action (due.SendCancel n) = Some n
row_of_action (due.SendAck n) = Some n
row_of_action due.SendAnswer = None
row_of_action due.TickServer = None
row_of_action (due.TickClient n) = Some n
row_of_action (due.TickCancel n) = Some n
row_of_action (due.FireTimerC n) = Some n
row_of_action (due.GiveUp n) = Some n

-- the row that a message comes to
abbrev pub row_of_recipient : MatchedTransaction → Option ℕ
row_of_recipient to.Server = None
row_of_recipient to.ServerAck = None
row_of_recipient to.ServerCancel = None
row_of_recipient (to.Client n) = Some n
row_of_recipient (to.CancelClient n) = Some n

-- the row whose datagram could not be sent
abbrev pub row_of_cause : Cause → Option ℕ
row_of_cause (cause.Request n) = Some n
row_of_cause (cause.Cancel n) = Some n
row_of_cause (cause.Ack n) = Some n
row_of_cause cause.Answer = None
row_of_cause cause.CancelOk = None

abbrev pub row_list : Option ℕ → List ℕ
row_list None = []
row_list (Some n) = n ∷ []

-- the step's own row, and what the event at this position starts or cancels, if one was posted there
abbrev pub touched : Call → Option ℕ → (at : ℕ) → List ℕ
touched call row at = row_list row ++ rows_in (slice_get call.log.replies at)

-- as many moments as there are rows, and the rows timed anew that a step touched
abbrev pub retimed : Call → Option ℕ → (at : ℕ) → List (Option ℕ) → List (Option ℕ)
retimed call row at moments = timed call (touched call row at) (take (length (rows_of call)) moments)

-- how many rows a response with this status may add: contacts of a 3xx may become targets
abbrev pub room_for : (status : ℕ) → ℕ
room_for status = if is_redirection status then most_targets else 0
