use Rattle.std.proofs.Common.{◌∙◌, arith}
use Rattle.registrar.specs.SeenTerms.{seen_terms}
use Rattle.registrar.proofs.ContactLists.{pushed_at, turned_at}
use Rattle.registrar.proofs.contacts.all_asked.Goals as goal

pub returns-then-not-branch : goal.returns-then-not-branch
returns-then-not-branch g c =
    turned_at (seen_terms c.args.terms.now) c.loop-item.all.items c.push_asked.new.all.items c.args.items.now c.loop-item.item-index _ (omega (arith, c.loop-item-test.true)) _
    c.if-not-branch.true c.in_ok-push_asked.ensures ∙ c.loop-item.invariant

pub loop-item-preserved : goal.loop-item-preserved
loop-item-preserved g c =
    pushed_at (seen_terms c.args.terms.now) c.loop-item.all.items c.push_asked.new.all.items c.args.items.now c.loop-item.item-index _ (omega (arith, c.loop-item-test.true)) _
    c.if-not-branch.false c.in_ok-push_asked.ensures ∙ c.loop-item.invariant
