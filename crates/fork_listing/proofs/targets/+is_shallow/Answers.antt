use Rattle.fork_listing.proofs.Common.{◌∙◌, ℕ, Option, sym, subst, IsShallow}
use Rattle.fork_listing.proofs.Placing.{below, above}
use Rattle.fork_listing.proofs.targets.+is_shallow.Goals as goal

pub returns-in-Some-target_at : goal.returns-in-Some-target_at
returns-in-Some-target_at t c =
    let here = sym c.target_at.ensures ∙ c.in-Some-target_at.is in
    let P : Option ℕ → Type 0 = λ o. IsShallow c.args.targets.now o c.args.most in (
      (λ yes. subst P (sym c.in-Some.is) (below c.args.targets.now c.in-Some.parent c.in-Some-target_at.target c.args.most here c.if-most-gt0.true (c.is_shallow.ensures.0 yes))),
      (λ h. c.is_shallow.ensures.1 (above c.args.targets.now c.in-Some.parent c.in-Some-target_at.target c.args.most here (subst P c.in-Some.is h))),
    )
