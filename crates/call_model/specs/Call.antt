-- The state of a call: its log, and a part for each transaction (RFC 3261 section 16).
use Rattle.std.specs.Prelude.{ℕ, zero, suc, ◌&&◌, Bool, true, false, List, [], ◌∷◌, Option, Some, None, is_none, is_some, slice_get}
use Rattle.fork_model.specs.Table.{Row, State, Idle, Trying, Rung, Ended, is_row, is_trying, is_cancelled}
use Rattle.fork_model.specs.Log.{Log, table_of}
use Rattle.call_model.specs.OpenedRequest.{OpenedRequest, Destination}
use Rattle.call_model.specs.Branch.{Branch, CancelTransaction}
use Rattle.call_model.specs.Closing.{Closing}
use Rattle.call_model.specs.Server.{Server}

pub record Call : Type 0 where
  pub opened : OpenedRequest
  -- the events that were posted, and the table that they lead to
  pub log : Log
  -- what closed the table
  pub closing : Closing
  -- for each row of the table, by its number, where its request goes; and its part, once that was sent
  pub destinations : List Destination
  pub branches : List (Option Branch)
  pub server : Server

-- the same call under another number
abbrev pub numbered : ℕ → Call → Call
numbered number call = record call { opened = record call.opened { number = number } }

abbrev pub rows_of : Call → List Row
rows_of call = (table_of call.log).rows

abbrev pub found : {A : Type 0} → Option (Option A) → Option A
found None = None
found (Some None) = None
found (Some (Some x)) = Some x

-- the part of branch n, if its request was sent
abbrev pub nth_branch : Call → ℕ → Option Branch
nth_branch call n = found (slice_get call.branches n)

abbrev pub with_branch : List (Option Branch) → ℕ → Branch → List (Option Branch)
with_branch [] n branch = []
with_branch (l ∷ branches) zero branch = Some branch ∷ branches
with_branch (l ∷ branches) (suc n) branch = l ∷ with_branch branches n branch

-- the call with another part for branch n
abbrev pub set_branch : Call → ℕ → Branch → Call
set_branch call n branch = record call { branches = with_branch call.branches n branch }

-- the call with its table closed by this
abbrev pub closed_by : Closing → Call → Call
closed_by closing call = record call { closing = closing }

abbrev pub row_passes : (State → Bool) → Call → ℕ → Bool
row_passes test call n = is_row test (slice_get (rows_of call) n)

-- ---- what is owed to branches, read off the table

abbrev pub lacks_cancel : Option Branch → Bool
lacks_cancel None = false
lacks_cancel (Some branch) = is_none branch.cancelling

-- branch n is tried, and its request was not sent
abbrev pub owes_request : Call → ℕ → Bool
owes_request call n = row_passes is_trying call n && is_none (nth_branch call n)

-- branch n is cancelled, and its CANCEL was not sent; one that ended first gets none
abbrev pub owes_cancel : Call → ℕ → Bool
owes_cancel call n = row_passes is_cancelled call n && lacks_cancel (nth_branch call n)

abbrev pub owes_ack_on : Option Branch → Bool
owes_ack_on None = false
owes_ack_on (Some branch) = has branch.ack
  where
    has : Option (List ℕ) → Bool
    has None = false
    has (Some ack) = true

abbrev pub owes_ack : Call → ℕ → Bool
owes_ack call n = owes_ack_on (nth_branch call n)

-- ---- which timers of a branch run

-- timer C runs until the branch is cancelled or has ended (section 16.8)
abbrev pub runs_timer_c : State → Bool
runs_timer_c Idle = false
runs_timer_c Trying = true
runs_timer_c (Rung cancelled) = not_yet cancelled
  where
    not_yet : Bool → Bool
    not_yet true = false
    not_yet false = true
runs_timer_c (Ended end) = false

abbrev pub give_up_of : Option CancelTransaction → Option ℕ
give_up_of None = None
give_up_of (Some cancelling) = Some cancelling.give_up_at

-- ---- whether the request of a branch was sent, and its CANCEL

abbrev pub is_sent : Call → ℕ → Bool
is_sent call n = is_some (nth_branch call n)

abbrev pub is_cancel_on : Option Branch → Bool
is_cancel_on None = false
is_cancel_on (Some branch) = is_some branch.cancelling

abbrev pub is_cancel_sent : Call → ℕ → Bool
is_cancel_sent call n = is_cancel_on (nth_branch call n)
