-- The longest time of a branch, which may be shorter than timer C is to be: what it changes of timer C, and that nothing
-- prolongs it (RFC 3261 sections 16.6 step 11, 16.7 step 2 and 16.8).
use Rattle.std.specs.Prelude.{◌≡◌, ◌⊎◌, ℕ, nat_lt, ◌&&◌, true, Option, Some, None, slice_get, if◌then◌else◌}
use Rattle.fork_model.specs.Table.{Kind, Invite, Other}
use Rattle.sip_txn.specs.Timers.{later}
use Rattle.call_model.specs.Branch.{Branch, timer_c, timer_c_from}
use Rattle.call_model.specs.Call.{Call, nth_branch}
use Rattle.call_model.specs.OpenedRequest.{Destination}
use Rattle.call_model.specs.Step.{Turn, Step}
use Rattle.call_model.specs.Take.{timer_c_again}

-- ---- as long as timer C

-- timer C of an INVITE starts when the request is sent
abbrev pub usual_timer_c : Kind → (now : ℕ) → Option ℕ
usual_timer_c Invite now = Some (later now timer_c)
usual_timer_c Other now = None

-- and anew with each provisional response but a 100
abbrev pub usual_timer_c_again : (now status : ℕ) → Option ℕ → Option ℕ
usual_timer_c_again now status None = None
usual_timer_c_again now status (Some at) = if nat_lt 100 status && nat_lt status 200 then Some (later now timer_c) else Some at

-- so it is where the longest time of a branch is that of timer C
abbrev pub UsualTimesStart : Type 0
UsualTimesStart = (kind : Kind) (now : ℕ) → timer_c_from kind now timer_c ≡ usual_timer_c kind now

abbrev pub UsualTimesStartAgain : Type 0
UsualTimesStartAgain = (now status : ℕ) (at : Option ℕ) → timer_c_again now status timer_c at ≡ usual_timer_c_again now status at

-- ---- shorter

-- timer C of a branch that is waited for less long stays as it was set when the request was sent, or has fired
abbrev pub ShorterTimesStay : Type 0
ShorterTimesStay =
    (turn : Turn) (call new : Call) (n : ℕ) (destination : Destination) (branch : Branch)
    → slice_get call.destinations n ≡ Some destination → nat_lt destination.longest timer_c ≡ true → nth_branch call n ≡ Some branch
    → Step turn.now call turn.input new turn.output
    → (later : Branch) × (nth_branch new n ≡ Some later) × ((later.timer_c_at ≡ branch.timer_c_at) ⊎ (later.timer_c_at ≡ None))
