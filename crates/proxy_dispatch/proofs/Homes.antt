-- The call that a response names.
use Rattle.proxy_dispatch.proofs.Common.{◌≡◌, ◌∙◌, ℕ, Option, Some, None, ap, refl, sym, subst, MessageText, Own, Setup}
use Rattle.std.proofs.lemmas.Option.{same_Some}
use Rattle.sip_branch.specs.declared.branch.BranchName.{BranchName}
use Rattle.sip_branch.specs.BranchText.{IsBranch}
use Rattle.sip_via.specs.OwnPass.{IsOwnBranch}
use Rattle.sip_via.specs.TopVia.{top_value}
use Rattle.call_state.specs.Matching.{IsReadBranch}
use Rattle.proxy_dispatch.specs.Becomes.{IsHome}

-- the branch that is read is the only one
pub read_so : (own : Own) (m : MessageText) (name : BranchName) → IsOwnBranch own (top_value m) name
    → ((b : BranchName) → IsBranch b → IsOwnBranch own (top_value m) b → Some name ≡ Some b) → IsReadBranch own (top_value m) name
read_so own m name found only = record { names = found; only = λ other is names. sym (same_Some name other (only other is names)) }

pub home_so : (setup : Setup) (own : Own) (m : MessageText) (name : BranchName) (instance : ℕ) → own ≡ setup.own → instance ≡ setup.instance → name.instance ≡ instance
    → IsBranch name → IsOwnBranch own (top_value m) name → IsHome setup name.context m
home_so setup own m name instance e f same is found =
    let P : Own → Type 0 = λ o. IsOwnBranch o (top_value m) name in
    (name, is, subst P e found, same ∙ f, refl)

-- what is named by another run of the proxy is named for no call of this one
pub away_so : (setup : Setup) (own : Own) (m : MessageText) (name : BranchName) (instance : ℕ) → own ≡ setup.own → instance ≡ setup.instance → (name.instance ≡ instance → ⊥)
    → ((b : BranchName) → IsBranch b → IsOwnBranch own (top_value m) b → Some name ≡ Some b) → (number : ℕ) → IsHome setup number m → ⊥
away_so setup own m name instance e f other only number (branch, is, names, run, context) =
    let P : Own → Type 0 = λ o. IsOwnBranch o (top_value m) branch in
    let same : name ≡ branch = same_Some name branch (only branch is (subst P (sym e) names)) in
    other (ap (λ (b : BranchName). b.instance) same ∙ run ∙ sym f)

pub none_so : (setup : Setup) (own : Own) (m : MessageText) → own ≡ setup.own → ((b : BranchName) → IsBranch b → IsOwnBranch own (top_value m) b → ⊥)
    → (number : ℕ) → IsHome setup number m → ⊥
none_so setup own m e none number (branch, is, names, run, context) =
    let P : Own → Type 0 = λ o. IsOwnBranch o (top_value m) branch in
    none branch is (subst P (sym e) names)
