use Rattle.fork_listing.proofs.Common.{ℕ, IsOrdered, first_to_fail, rules, first_from_Range}
use Rattle.fork_listing.proofs.ranks.first_misordered.Goals as goal

pub returns : goal.returns
returns c =
    let P : ℕ → Type 0 = IsOrdered c.args.rules.now c.args.targets.now c.args.ranks.now in
    first_to_fail P _ _ (first_from_Range _ _ _ _ (λ n. P n → ⊥) P c.find.ensures.ran (λ x q k. search rules) (λ x q k. search rules))
