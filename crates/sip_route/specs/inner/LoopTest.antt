-- Whether a request passed this proxy before (RFC 3261 sections 16.3 step 4 and 16.6 step 8).
-- Here: what no public contract reaches.
use Rattle.std.specs.Prelude.{ℕ, List}
use Rattle.sip_via.specs.declared.own.Own.{Own}
use Rattle.sip_branch.specs.declared.branch.BranchName.{BranchName}
use Rattle.sip_branch.specs.BranchText.{IsBranch}
use Rattle.sip_via.specs.OwnPass.{IsOwnBranch}

-- the proxy put the value, for a request of whatever key
abbrev pub IsOwnValue : Own → List ℕ → Type 0
IsOwnValue own value = (b : BranchName) × IsBranch b × IsOwnBranch own value b
