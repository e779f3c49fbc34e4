use Rattle.context_values.proofs.Common.{rules, row_extras_at}
use Rattle.std.proofs.lemmas.List.{get_or_default}
use Rattle.context_values.proofs.NewRowLists.{pushed_more}
use Rattle.context_values.proofs.new_target.extras_at.Goals as goal

pub loop-pair-preserved : goal.loop-pair-preserved
loop-pair-preserved g c =
    pushed_more (row_extras_at c.args.fresh.now) c.args.numbered.now c.loop-pair.pair-index _ _ _ (search rules)
    (get_or_default c.args.numbered.now c.loop-pair.pair-index (0, 0) _ (search rules))
    c.loop-pair.invariant c.in_ok-push_row_extras_at.ensures
