use Rattle.fork_context.proofs.Common.{◌≡◌, ℕ, List, length, arith, ap, ◌∙◌, Offer, ContactLists, taking_at, tree_row, common_steps}
use Rattle.std.proofs.lemmas.Result.{on_ok_weaker}
use Rattle.fork_context.proofs.Redirected.{are_below, taking_at_few}
use Rattle.fork_context.proofs.fork.Fork.redirect.Goals as goal

pub rows_below-requires : goal.rows_below-requires
rows_below-requires g c =
    let row = tree_row c.args.row.now in
    let offers = c.offers.ensures in
    let is : c.in_ok-taken.taken ≡ taking_at c.args.self.now row c.args.answer.now.offers = c.in_ok-taken.ensures.value ∙ ap (taking_at c.args.self.now row) offers in
    let same = ap (λ (fs : List (ℕ × Offer)). length fs) (c.deref.ensures.value ∙ ap (λ (t : ContactLists). t.fresh) (c.taken.view_is ∙ is)) in
    let few = taking_at_few c.args.self.now row c.args.answer.now.offers (omega (arith, c.count.ensures.value, c.count.ensures.range)) in
    record { few = omega (arith, few, same, c.count.ensures.value) }

pub end-requires-clause-each : goal.end-requires-clause-each
end-requires-clause-each g c =
    (are_below c.args.row.now.no c.count.result c.deref.result.now c.in_ok-below.below.0 c.in_ok-below.below.1.items c.in_ok-below.ensures.added c.in_ok-below.ensures.extras).each

pub returns-clause-ok : goal.returns-clause-ok
returns-clause-ok g c =
    let now = c.args.self.now in
    let n = c.args.row.now.no in
    let row = tree_row c.args.row.now in
    let answer = c.args.answer.now in
    let offers = c.offers.ensures in
    let is : c.in_ok-taken.taken ≡ taking_at now row answer.offers = c.in_ok-taken.ensures.value ∙ ap (taking_at now row) offers in
    let below = are_below n c.count.result c.deref.result.now c.in_ok-below.below.0 c.in_ok-below.below.1.items c.in_ok-below.ensures.added c.in_ok-below.ensures.extras in
    grind (arith, common_steps, on_ok_weaker)
