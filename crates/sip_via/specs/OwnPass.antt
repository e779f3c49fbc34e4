-- Which Via values this proxy put (RFC 3261 sections 16.3 step 4 and 16.6 step 8).
use Rattle.std.specs.Prelude.{◌≡◌, ℕ, List, Some, Ok}
use Rattle.sip_branch.specs.declared.branch.BranchName.{BranchName}
use Rattle.sip_via.specs.declared.own.Own.{Own}
use Rattle.sip_via.specs.Address.{address_text}
use Rattle.sip_branch.specs.BranchText.{IsBranch, branch_text}
use Rattle.sip_via.specs.Received.{port_or_default}
use Rattle.sip_via.specs.ViaParts.{ViaText, branch_of, port_if_any, read_via}

-- the sender is this proxy, by its address as text and its port, and the parameter `branch` is the text of that branch
pub record IsOwnVia (own : Own) (via : ViaText) (b : BranchName) : Type 0 where
  pub host : via.host ≡ address_text own.addr
  pub port : port_or_default (port_if_any via.port) ≡ own.port
  pub branch : branch_of via ≡ Some (branch_text b)

-- the value is read so
abbrev pub IsOwnBranch : Own → List ℕ → BranchName → Type 0
IsOwnBranch own value b = (via : ViaText) × (read_via value ≡ Ok via) × IsOwnVia own via b

-- and the branch has the key
abbrev pub IsOwnPass : Own → List ℕ → List ℕ → Type 0
IsOwnPass own key value = (b : BranchName) × IsBranch b × IsOwnBranch own value b × (b.key ≡ key)
