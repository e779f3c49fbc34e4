use Rattle.fork_context.proofs.Common.{ap, ◌∙◌, nat_eq, list_any, pointwise, Row, Table}
use Rattle.fork_context.proofs.ForkRows.{keys_with_extras}
use Rattle.fork_context.proofs.fork.Fork.has_key.Goals as goal

pub returns : goal.returns
returns g c =
    c.has_key.ensures
    ∙ keys_with_extras c.args.key.now c.self.inside.tree.rows c.self.inside.extras c.self.invariant.each
    ∙ ap (λ (t : Table). list_any (λ (row : Row). pointwise nat_eq c.args.key.now row.key) t.rows) c.self.view_is
