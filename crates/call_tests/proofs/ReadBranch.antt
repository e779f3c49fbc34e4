-- The branch that is read of the top Via value of a message is the only one that it names.
use Rattle.std.proofs.Common.{◌≡◌, Some, sym}
use Rattle.std.proofs.lemmas.Option.{same_Some}
use Rattle.sip_text.specs.Text.{MessageText}
use Rattle.sip_branch.specs.declared.branch.BranchName.{BranchName}
use Rattle.sip_via.specs.declared.own.Own.{Own}
use Rattle.sip_branch.specs.BranchText.{IsBranch}
use Rattle.sip_via.specs.OwnPass.{IsOwnBranch}
use Rattle.sip_via.specs.TopVia.{top_value}
use Rattle.call_state.specs.Matching.{IsReadBranch}

pub read_so : (own : Own) (m : MessageText) (name : BranchName) → IsOwnBranch own (top_value m) name
    → ((b : BranchName) → IsBranch b → IsOwnBranch own (top_value m) b → Some name ≡ Some b) → IsReadBranch own (top_value m) name
read_so own m name found only = record { names = found; only = λ other is names. sym (same_Some name other (only other is names)) }
