use Rattle.fork_context.proofs.Common.{◌∙◌, sym, refl}
use Rattle.fork_tree.specs.Below.{parent_of}
use Rattle.fork_context.proofs.RowsWithExtras.{row_read}
use Rattle.fork_context.proofs.fork.Fork.parent.Goals as goal

pub returns : goal.returns
returns g c = rw (← c.self.view_is) (c.parent.ensures ∙ sym (row_read parent_of (λ row b. refl) c.self.inside.tree.rows c.self.inside.extras c.args.n))
