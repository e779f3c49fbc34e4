use Rattle.call_branch.proofs.Common.{◌≡◌, ◌∙◌, ap, arith, no_branches}
use Rattle.call_branch.proofs.branches.no_branches.Goals as goal

pub returns : goal.returns
returns g c =
    let e : c.loop-place.place ≡ c.args.count = omega (arith, c.loop-place.auto.place-end, c.loop-place-test.false) in
    c.loop-place.invariant ∙ ap no_branches e
