use Rattle.fork_context.proofs.Common.{◌∙◌, sym}
use Rattle.fork_context.proofs.Successes.{succeeded_with_extras}
use Rattle.fork_context.proofs.fork.Fork.succeeded.Goals as goal

pub returns : goal.returns
returns g c = rw (← c.self.view_is) (c.self.invariant.succeeds ∙ sym (succeeded_with_extras c.self.inside.tree.rows c.self.inside.extras))
