-- What a branch keeps to be sent is as it was made, over whole runs (RFC 3261 sections 9.1, 16.6 and 17.1.1.2).
use Rattle.std.specs.Prelude.{◌≡◌, ℕ, List, Some, IfSome, slice_get}
use Rattle.sip_text.specs.Text.{HeaderText, spelling}
use Rattle.fork_model.specs.Log.{Log}
use Rattle.call_model.specs.OpenedRequest.{OpenedRequest, Destination}
use Rattle.call_model.specs.Branch.{Branch}
use Rattle.call_model.specs.Call.{Call, nth_branch}
use Rattle.call_model.specs.Begun.{begun}
use Rattle.call_model.specs.Built.{Datagram, request_to, cancel_to}
use Rattle.call_model.specs.Step.{Turn, Step}

-- ---- the part of a branch

-- these bytes are a CANCEL of branch n, with some Reason lines
abbrev pub IsCancel : Call → ℕ → Destination → List ℕ → Type 0
IsCancel call n destination bytes = (reasons : List HeaderText) × (bytes ≡ spelling (cancel_to call.opened destination n reasons))

-- of branch n, which is sent to by this destination: the request and the CANCEL that its timers send again. The ACK that it owes rests
-- on the response that came, and is no matter of this part alone
pub record IsBuiltBranch (call : Call) (n : ℕ) (destination : Destination) (branch : Branch) : Type 0 where
  pub request : branch.sent ≡ spelling (request_to call.opened destination n)
  pub cancel : IfSome branch.cancelling (λ c. IsCancel call n destination c.sent)

pub record IsBuilt (call : Call) : Type 0 where
  pub branches : (n : ℕ) (branch : Branch) → nth_branch call n ≡ Some branch → (destination : Destination) × (slice_get call.destinations n ≡ Some destination) × IsBuiltBranch call n destination branch

-- ---- a datagram to a branch

-- it goes to the hop of branch n, and of the branch's destination this holds
abbrev pub ToBranch : Call → ℕ → Datagram → (Destination → Type 0) → Type 0
ToBranch call n d P = (destination : Destination) × (slice_get call.destinations n ≡ Some destination) × (d.to ≡ destination.hop) × P destination

-- ---- laws

-- a call is well built before anything was sent, and each step keeps it so
abbrev pub BegunIsBuilt : Type 0
BegunIsBuilt = (opened : OpenedRequest) (log : Log) (destinations : List Destination) → IsBuilt (begun opened log destinations)

abbrev pub StepsKeepBuilt : Type 0
StepsKeepBuilt = (turn : Turn) (call new : Call) → IsBuilt call → Step turn.now call turn.input new turn.output → IsBuilt new
