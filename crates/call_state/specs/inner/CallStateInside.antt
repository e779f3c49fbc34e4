-- What holds of the parts of every call, and what its private calls make.
-- Here: what no public contract reaches.
use Rattle.std.specs.Prelude.{◌≡◌, ℕ, List, Some}
use Rattle.call_model.specs.declared.cause.Cause.TheVariants as cause
use Rattle.call_model.specs.Built.{Datagram}
use Rattle.call_model.specs.OpenedRequest.{OpenedRequest, Destination}
use Rattle.call_model.specs.Branch.{CancelTransaction, Branch}

-- the request of branch n again
abbrev pub IsRequestAgain : ℕ → Destination → Branch → Datagram → Type 0
IsRequestAgain n destination branch d = d ≡ record { to = destination.hop; bytes = branch.sent; cause = cause.Request n }

-- these bytes to the caller
abbrev pub answer_to : OpenedRequest → List ℕ → Datagram
answer_to opened bytes = record { to = opened.caller; bytes = bytes; cause = cause.Answer }

-- the CANCEL of branch n again
abbrev pub IsCancelAgain : ℕ → Destination → Branch → Datagram → Type 0
IsCancelAgain n destination branch d =
    (cancelling : CancelTransaction) × (branch.cancelling ≡ Some cancelling) × (d ≡ record { to = destination.hop; bytes = cancelling.sent; cause = cause.Cancel n })
