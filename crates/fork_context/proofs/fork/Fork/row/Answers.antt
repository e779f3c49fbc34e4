use Rattle.fork_context.proofs.Common.{◌∙◌, sym, Some, option_map, RowRef, ref_shown}
use Rattle.fork_context.proofs.RowsWithExtras.{shown_extras, row_read}
use Rattle.fork_context.proofs.fork.Fork.row.Goals as goal

pub returns : goal.returns
returns g c =
    let same = row_read (option_map (ref_shown c.args.n))
    (λ row b. λ i.
    Some (let r : RowRef = record { no = c.args.n; parent = row.parent; group = row.group; q = row.q; state = shown_extras row.state b i } in r)) in
    rw (← c.self.view_is) (c.row.ensures ∙ sym (same c.self.inside.tree.rows c.self.inside.extras c.args.n))
