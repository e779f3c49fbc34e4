use Rattle.context_values.proofs.Common.{arith, common_steps}
use Rattle.context_values.proofs.GroupSteps.{numbered_more, groups_few, group_within}
use Rattle.context_values.proofs.numbering.numbered.Goals as goal

pub overflow_cast-group : goal.overflow_cast-group
overflow_cast-group g c = grind (arith, common_steps, groups_few)

pub push_group-requires : goal.push_group-requires
push_group-requires g c = grind (arith, common_steps, group_within)

pub loop-group-preserved : goal.loop-group-preserved
loop-group-preserved g c =
    let more = numbered_more c.deref-places-items.result.now c.loop-group.group c.places-item.result (omega arith) c.places-item.is in
    grind (arith, common_steps)
