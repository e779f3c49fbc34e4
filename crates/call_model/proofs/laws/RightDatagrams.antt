-- The part of a branch that was sent to, by its destination.
use Rattle.call_model.proofs.Common.{◌≡◌, ◌∙◌, ℕ, sym, subst, Option, Some, slice_get, IfSome, Destination, Branch, Call, nth_branch, IsBuilt, IsBuiltBranch}

pub built_by : (call : Call) (n : ℕ) (destination : Destination) (branch : Branch) → IsBuilt call → slice_get call.destinations n ≡ Some destination → nth_branch call n ≡ Some branch → IsBuiltBranch call n destination branch
built_by call n destination branch built goes there =
    let found = built.branches n branch there in
    let same : found.0 ≡ destination = let e : Some found.0 ≡ Some destination = sym found.1 ∙ goes in cc in
    let P : Destination → Type 0 = λ w. IsBuiltBranch call n w branch in
    subst P same found.2

pub some_as : {A : Type 0} (P : A → Type 0) (o : Option A) (x : A) → o ≡ Some x → IfSome o P → P x
some_as P o x e h = let Q = λ (a : Option _). IfSome a P in subst Q e h
