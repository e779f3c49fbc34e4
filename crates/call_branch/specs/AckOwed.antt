-- What the datagrams of a call are made of, over whole runs (RFC 3261 sections 8.2.6, 9.1, 16.6, 16.7 and 17.1.1.3).
use Rattle.std.specs.Prelude.{ℕ, List, Option, Some, None}
use Rattle.call_model.specs.Branch.{Branch}
use Rattle.call_model.specs.Call.{Call, nth_branch}

-- ---- the ACK that a branch owes

abbrev pub ack_on : Option Branch → Option (List ℕ)
ack_on None = None
ack_on (Some branch) = branch.ack

abbrev pub ack_owed : Call → ℕ → Option (List ℕ)
ack_owed call n = ack_on (nth_branch call n)
