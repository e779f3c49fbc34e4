-- The end of the branches of a call.
use Rattle.std.specs.Prelude.{◌≡◌, ◌<◌, ℕ, Some}
use Rattle.call_model.specs.Call.{Call, nth_branch}
use Rattle.call_model.specs.Due.{IsOverBranch}
use Rattle.call_model.specs.Branch.{Branch}

-- the transactions of branch n have ended, or its request was not sent
abbrev pub IsOverAt : Call → ℕ → Type 0
IsOverAt call n = (branch : Branch) → nth_branch call n ≡ Some branch → IsOverBranch branch

-- those of every branch
abbrev pub AreOver : Call → Type 0
AreOver call = (n : ℕ) → IsOverAt call n

-- those of the branches before this one
abbrev pub AreOverBelow : Call → ℕ → Type 0
AreOverBelow call bound = (n : ℕ) → n < bound → IsOverAt call n
