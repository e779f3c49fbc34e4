use Rattle.fork_tree.proofs.Common.{◌≡◌, ◌≤◌, ◌∙◌, length, slice_get, Some, arith, ap, sym, parent_of, Tree, slice_get_past}
use Rattle.fork_tree.proofs.GroupNumbers.{row_of}
use Rattle.fork_tree.proofs.tree.ForkTree.parent.Goals as goal
use Rattle.fork_tree.proofs.Counts.{rows_count}

pub returns-then-n-len : goal.returns-then-n-len
returns-then-n-len g c =
    let past : length c.args.self.now.rows ≤ c.args.n =
    omega (arith, c.if-n-len.true, c.len.ensures, rows_count _ c.self.inside.places.items c.self.inside.root _ c.self.view_is) in
    sym (ap parent_of (slice_get_past c.args.self.now.rows c.args.n past))

pub returns : goal.returns
returns g c =
    let is : slice_get c.self.inside.places.items c.args.n ≡ Some c.node_place.result =
    ap (λ x. slice_get x c.args.n) (sym c.deref.ensures.value) ∙ c.node_place.ensures in
    let at = row_of c.self.inside.places.items c.self.inside.root c.args.self.now.rows c.args.n c.node_place.result (ap (λ (t : Tree). t.rows) c.self.view_is) is in
    sym at.parent ∙ sym (ap parent_of at.there)
