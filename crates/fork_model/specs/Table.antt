-- The response context of a fork as a table: a row for each target, the row's number being its place in
-- the list (RFC 3261 sections 16.5 to 16.7).
use Rattle.std.specs.Prelude.{ℕ, Bool, true, false, List, Option, Some, None}
use Rattle.std.specs.List.{list_all, list_any}

-- what is forked; the branches of an INVITE alone can be cancelled (section 9.1)
pub data Kind : Type 0 where
  Invite : Kind
  Other : Kind

-- a contact of a 3xx as the caller reads it; the key is there where the proxy may try it
pub record Offer : Type 0 where
  pub text : List ℕ
  pub q : ℕ
  pub key : Option (List ℕ)

-- a challenge of a 401 or a 407: a value of Proxy-Authenticate where `proxy`, else of WWW-Authenticate
pub record Challenge : Type 0 where
  pub proxy : Bool
  pub value : List ℕ

-- a stored answer: its arrival is the position of the event that brought it; one that was not received is
-- assumed by the proxy; the contacts left are those of a 3xx that the proxy does not try itself
pub record StoredAnswer : Type 0 where
  pub status : ℕ
  pub arrival : ℕ
  pub received : Bool
  pub left : List Offer
  pub challenges : List Challenge

-- how a branch ended: with a stored answer; with a 3xx all of whose contacts were taken; cancelled and
-- given up without an answer; never tried; with a 2xx
pub data End : Type 0 where
  Stored : StoredAnswer → End
  Taken : (arrival : ℕ) → End
  Silent : (arrival : ℕ) → End
  Never : End
  Accepted : (arrival : ℕ) → End

-- where a branch is: it waits for its group, it was tried, it has rung and its CANCEL was sent or not, it has ended
pub data State : Type 0 where
  Idle : State
  Trying : State
  Rung : (cancelled : Bool) → State
  Ended : End → State

-- a target's row: q in thousandths; the place is that in the list that the target came in; a target that
-- came by a 3xx stands under the row that answered; groups count from 0 under each parent
pub record Row : Type 0 where
  pub key : List ℕ
  pub q : ℕ
  pub place : ℕ
  pub parent : Option ℕ
  pub group : ℕ
  pub state : State

-- what an operator may set: the 4xx statuses that go first, and how deep contacts of contacts are tried
pub record Rules : Type 0 where
  pub preferred : List ℕ
  pub depth : ℕ

pub record Table : Type 0 where
  pub kind : Kind
  pub rules : Rules
  pub closed : Bool
  pub rows : List Row

-- no more targets than these are tried for one request
abbrev pub most_targets : ℕ
most_targets = 256

abbrev pub is_invite : Kind → Bool
is_invite Invite = true
is_invite Other = false

abbrev pub is_idle : State → Bool
is_idle Idle = true
is_idle Trying = false
is_idle (Rung cancelled) = false
is_idle (Ended end) = false

abbrev pub is_trying : State → Bool
is_trying Idle = false
is_trying Trying = true
is_trying (Rung cancelled) = false
is_trying (Ended end) = false

-- its CANCEL was sent, and it has not ended
abbrev pub is_cancelled : State → Bool
is_cancelled Idle = false
is_cancelled Trying = false
is_cancelled (Rung cancelled) = cancelled
is_cancelled (Ended end) = false

-- it was tried, and has not ended
abbrev pub is_open : State → Bool
is_open Idle = false
is_open Trying = true
is_open (Rung cancelled) = true
is_open (Ended end) = false

abbrev pub is_ended : State → Bool
is_ended Idle = false
is_ended Trying = false
is_ended (Rung cancelled) = false
is_ended (Ended end) = true

abbrev pub is_accepted_end : End → Bool
is_accepted_end (Stored answer) = false
is_accepted_end (Taken arrival) = false
is_accepted_end (Silent arrival) = false
is_accepted_end Never = false
is_accepted_end (Accepted arrival) = true

abbrev pub is_accepted : State → Bool
is_accepted Idle = false
is_accepted Trying = false
is_accepted (Rung cancelled) = false
is_accepted (Ended end) = is_accepted_end end

abbrev pub stored_end : End → Option StoredAnswer
stored_end (Stored answer) = Some answer
stored_end (Taken arrival) = None
stored_end (Silent arrival) = None
stored_end Never = None
stored_end (Accepted arrival) = None

-- the stored answer of a branch, if it has one
abbrev pub stored_of : State → Option StoredAnswer
stored_of Idle = None
stored_of Trying = None
stored_of (Rung cancelled) = None
stored_of (Ended end) = stored_end end

-- finished: every branch has ended
abbrev pub is_finished : List Row → Bool
is_finished rows = list_all (λ row. is_ended row.state) rows

-- succeeded: a branch was answered with a 2xx
abbrev pub is_succeeded : List Row → Bool
is_succeeded rows = list_any (λ row. is_accepted row.state) rows

-- whether there is such a row, and its state passes the test
abbrev pub is_row : (State → Bool) → Option Row → Bool
is_row test None = false
is_row test (Some row) = test row.state
