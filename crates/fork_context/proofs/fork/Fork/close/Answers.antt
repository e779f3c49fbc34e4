use Rattle.fork_context.proofs.Common.{true, map, ap, ◌∙◌, sym, subst, List, Row, Table, Tree, never_row, with_extras, IsFork, kind_of}
use Rattle.fork_context.proofs.ForkRows.{fork_closed}
use Rattle.fork_context.proofs.RowsWithExtras.{with_extras_never}
use Rattle.fork_context.proofs.fork.Fork.close.Goals as goal

pub invariant_of-self : goal.invariant_of-self
invariant_of-self g c =
    let Q : Tree → Type 0 = λ t. IsFork t.rows c.self.inside.extras c.self.inside.succeeded in
    subst Q (sym c.close.ensures) (fork_closed c.self.inside.tree.rows c.self.inside.extras c.self.inside.succeeded c.self.invariant)

pub returns : goal.returns
returns g c =
    let view : Tree → Table = λ (t : Tree). record { kind = kind_of c.self.inside.kind; rules = t.rules; closed = true; rows = with_extras t.rows c.self.inside.extras } in
    let with_rows : List Row → Table = λ (rows : List Row). record { kind = kind_of c.self.inside.kind; rules = c.self.inside.tree.rules; closed = true; rows = rows } in
    let after : Table → Table = λ (t : Table). record t { closed = true; rows = map never_row t.rows } in
    ap view c.close.ensures ∙ ap with_rows (with_extras_never c.self.inside.tree.rows c.self.inside.extras) ∙ ap after c.self.view_is
