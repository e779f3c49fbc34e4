use Rattle.fork_context.proofs.Common.{◌∙◌}
use Rattle.fork_context.proofs.TakenKeys.{only_rows}
use Rattle.fork_context.proofs.targets.Targets.of.Goals as goal

pub returns : goal.returns
returns g c = only_rows c.args.fork.now.rows c.in_ok-fresh.fresh (c.in_ok-fresh.ensures ∙ c.new.ensures.items)
