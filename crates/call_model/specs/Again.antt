-- What a call sends more than once (RFC 3261 sections 9.1, 17.1.1.2, 17.1.2.2 and 17.2).
use Rattle.std.specs.Prelude.{◌≡◌, ℕ, Bool, true, false, List, Some, slice_get}
use Rattle.call_model.specs.declared.cause.Cause.{Cause}
use Rattle.call_model.specs.declared.cause.Cause.TheVariants as cause
use Rattle.call_model.specs.Built.{Datagram}
use Rattle.call_model.specs.Call.{Call}
use Rattle.call_model.specs.Datagrams.{IsBuilt}
use Rattle.call_model.specs.Pump as pump
use Rattle.call_model.specs.Step.{Output, Did, Turn, Step, Run}

-- ---- to a branch

-- one of these turns sends this datagram
abbrev pub Sends : List Turn → Datagram → Type 0
Sends turns d = (place : ℕ) × (turn : Turn) × (slice_get turns place ≡ Some turn) × (turn.output ≡ Did (pump.Send d))

-- a request to a branch or its CANCEL, which timers send again
abbrev pub is_repeated : Cause → Bool
is_repeated (cause.Request n) = true
is_repeated (cause.Cancel n) = true
is_repeated _ = false

-- whatever happens to a call, each request that it sends to a branch is the one that it sent there first, byte for byte and
-- to the same hop; and so is each CANCEL
abbrev pub RepeatsAreTheSame : Type 0
RepeatsAreTheSame =
    (call new : Call) (turns : List Turn) (first again : Datagram) → IsBuilt call → Run call turns new
    → Sends turns first → Sends turns again → is_repeated first.cause ≡ true → again.cause ≡ first.cause → again ≡ first

-- ---- to the caller

-- the answer that was sent last, after a datagram of this cause
abbrev pub last_of : Cause → (bytes last : List ℕ) → List ℕ
last_of cause.Answer bytes last = bytes
last_of _ bytes last = last

-- the same after a turn that answered so
abbrev pub last_after : Output → (last : List ℕ) → List ℕ
last_after (Did (pump.Send d)) last = last_of d.cause d.bytes last
last_after _ last = last

-- what a call keeps to send to its caller again is the answer that it sent last
abbrev pub LastAnswerIsKept : Type 0
LastAnswerIsKept =
    (turn : Turn) (call new : Call) → Step turn.now call turn.input new turn.output
    → new.server.last ≡ last_after turn.output call.server.last
