use Rattle.context_values.proofs.Common.{arith, rules, target_extras}
use Rattle.context_values.proofs.NewRowLists.{extras_more}
use Rattle.context_values.proofs.target_rows.target_extras.Goals as goal

pub loop-group-preserved : goal.loop-group-preserved
loop-group-preserved g c =
    let more = extras_more (target_extras c.args.targets.now) c.args.order.now c.loop-group.group-index (0, 0) (omega arith) in
    search (rules, more)
