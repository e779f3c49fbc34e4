use Rattle.fork_context.proofs.Common.{arith, common_steps}
use Rattle.fork_context.proofs.TakenKeys.{sizes, one_more}
use Rattle.fork_context.proofs.targets.Targets.add.Goals as goal

pub push-requires : goal.push-requires
push-requires g c = grind (arith, common_steps, sizes)

pub returns : goal.returns
returns g c =
    one_more c.self.inside.fork.now.rows c.self.inside.fresh c.push.new.self c.args.row_extras c.args.self.now c.self.view_is c.in_ok-push.ensures
