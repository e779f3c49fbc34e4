-- Another part for a branch leaves the sizes of a call.
use Rattle.call_state.proofs.Common.{◌≡◌, ◌∙◌, ℕ, ap, length, List, Option, Log, Destination, Branch, with_branch, changed_branch, IsSized}
use Rattle.call_branch.proofs.laws.BranchLists.{length_changed, length_with_branch}

pub sized_branch : (log : Log) (destinations : List Destination) (branches new : List (Option Branch)) (n : ℕ) (branch : Branch)
    → IsSized log destinations branches → new ≡ with_branch branches n branch → IsSized log destinations new
sized_branch log destinations branches new n branch is e = record {
  each_destination = is.each_destination;
  each_branch = ap length e ∙ length_with_branch branches n branch ∙ is.each_branch;
}

pub sized_changed : (f : Branch → Branch) (log : Log) (destinations : List Destination) (branches new : List (Option Branch)) (n : ℕ)
    → IsSized log destinations branches → new ≡ changed_branch f branches n → IsSized log destinations new
sized_changed f log destinations branches new n is e = record {
  each_destination = is.each_destination;
  each_branch = ap length e ∙ length_changed f branches n ∙ is.each_branch;
}
