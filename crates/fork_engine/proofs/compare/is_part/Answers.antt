use Rattle.std.proofs.Common.{◌≡◌, sym, ◌∙◌, map}
use Rattle.context_values.specs.EventView.{event_of}
use Rattle.fork_engine.proofs.Steps.{part_step, part_other}
use Rattle.fork_engine.proofs.compare.is_part.Goals as goal

pub loop-first-preserved-else-not-is_same_event : goal.loop-first-preserved-else-not-is_same_event
loop-first-preserved-else-not-is_same_event g c =
    let rest = c.in-Some.ensures.cases.0 in
    let left = c.in-Some-split_first.ensures.cases.0 in
    let inv = rw (rest, left) at c.loop-first.invariant in
    let is : c.in-Some.first.now.tag ≡ c.args.tag = sym c.tag.ensures ∙ sym c.from.ensures ∙ c.if-from-tag.true in
    let same : c.in-Some.first.now.event ≡ event_of c.in-Some-split_first.event.now = sym c.event.ensures ∙ c.is_same_event.ensures.0 (cc) in
    let step = part_step c.args.tag c.in-Some.first.now c.in-Some.others.now (event_of c.in-Some-split_first.event.now) (map event_of c.in-Some-split_first.more.now) is same in
    (λ p. inv.0 (step.0 p), λ x. step.1 (inv.1 x))

pub loop-first-preserved : goal.loop-first-preserved
loop-first-preserved g c =
    let rest = c.in-Some.ensures.cases.0 in
    let inv = rw rest at c.loop-first.invariant in
    let tags : c.from.result ≡ c.in-Some.first.now.tag = c.from.ensures ∙ c.tag.ensures in
    let step = part_other c.args.tag c.in-Some.first.now c.in-Some.others.now (map event_of c.loop-first.left.now) (λ e. absurd (c.if-from-tag.false (tags ∙ e))) in
    (λ p. inv.0 (step.0 p), λ x. step.1 (inv.1 x))
