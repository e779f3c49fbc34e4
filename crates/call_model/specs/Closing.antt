-- What closed the table of a call, and what a CANCEL of a branch says of that (RFC 3261 sections 16.7 steps 5 and 10 and
-- 16.10, RFC 3326).
use Rattle.std.specs.Prelude.{ℕ, nat_lt, Bool, true, false, List, [], ◌∷◌, ◌++◌, Option, Some, None, codes, if◌then◌else◌}
use Rattle.std.specs.Fmt.{decimal}
use Rattle.sip_text.specs.Text.{HeaderText}
use Rattle.sip_via.specs.Edits.{line}

-- nothing yet; a 2xx; a 6xx, of this status; the caller's CANCEL, with its Reason lines as they stand
pub data Closing : Type 0 where
  NotClosed : Closing
  BySuccess : Closing
  ByGlobalFailure : (status : ℕ) → Closing
  ByCancel : (reasons : List HeaderText) → Closing

abbrev pub has_closed : Closing → Bool
has_closed NotClosed = false
has_closed BySuccess = true
has_closed (ByGlobalFailure status) = true
has_closed (ByCancel reasons) = true

-- an answer of this status that closes the table
abbrev pub closing_by : (status : ℕ) → Closing
closing_by status = if nat_lt status 300 then BySuccess else ByGlobalFailure status

-- what has closed the table behind an answer of this status, by whether it is closed then: the answer, where nothing had
-- before
abbrev pub closing_after : (closed : Bool) → (status : ℕ) → Closing → Closing
closing_after true status NotClosed = closing_by status
closing_after true status closing = closing
closing_after false status closing = closing

-- ---- the Reason lines of a CANCEL

abbrev pub reason_line : List ℕ → HeaderText
reason_line value = line (codes "Reason") value

abbrev pub reasons_by : Closing → List HeaderText
reasons_by NotClosed = []
reasons_by BySuccess = reason_line (codes "SIP;cause=200;text=\"Call completed elsewhere\"") ∷ []
reasons_by (ByGlobalFailure status) = reason_line (codes "SIP;cause=" ++ decimal status) ∷ []
reasons_by (ByCancel reasons) = reasons

-- none where timer C has fired for the branch
abbrev pub reasons_if : (timer_c_at : Option ℕ) → Closing → List HeaderText
reasons_if None closing = []
reasons_if (Some at) closing = reasons_by closing
