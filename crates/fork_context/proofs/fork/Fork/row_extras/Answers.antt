use Rattle.fork_context.proofs.Common.{ap, ◌∙◌, slice_get, option_map, Row, Table, RowExtras}
use Rattle.fork_context.proofs.ForkRows.{key_with_extras}
use Rattle.fork_context.proofs.fork.Fork.row_extras.Goals as goal

pub returns : goal.returns
returns g c =
    ap (option_map (λ (b : RowExtras). b.key)) c.get.ensures
    ∙ key_with_extras c.self.inside.tree.rows c.self.inside.extras c.args.n c.self.invariant.each
    ∙ ap (λ (t : Table). option_map (λ (row : Row). row.key) (slice_get t.rows c.args.n)) c.self.view_is
