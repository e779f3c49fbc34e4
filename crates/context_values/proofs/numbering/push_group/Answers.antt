use Rattle.context_values.proofs.Common.{arith, append_assoc, common_steps}
use Rattle.context_values.proofs.GroupSteps.{in_group_more}
use Rattle.context_values.proofs.numbering.push_group.Goals as goal

pub loop-place-preserved : goal.loop-place-preserved
loop-place-preserved g c =
    let places = c.args.places.now in
    grind (arith, common_steps, append_assoc, in_group_more)
