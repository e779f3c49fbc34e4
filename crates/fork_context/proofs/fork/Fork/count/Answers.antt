use Rattle.fork_context.proofs.Common.{arith, ◌∙◌, sym}
use Rattle.fork_context.proofs.RowsWithExtras.{length-with_extras}
use Rattle.fork_context.proofs.fork.Fork.count.Goals as goal

pub returns-clause-value : goal.returns-clause-value
returns-clause-value g c = rw (← c.self.view_is) (c.count.ensures ∙ sym (length-with_extras c.self.inside.tree.rows c.self.inside.extras))

pub returns-clause-range : goal.returns-clause-range
returns-clause-range g c = omega (arith, c.count.ensures, c.self.invariant.few)
