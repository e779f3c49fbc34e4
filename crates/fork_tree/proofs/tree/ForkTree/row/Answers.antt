use Rattle.fork_tree.proofs.Common.{◌≡◌, ◌<◌, ◌≤◌, Some, length, slice_get, arith, ap, sym, ◌∙◌, option_map, under, path_of, Tree, row_ref, slice_get_past}
use Rattle.fork_tree.proofs.Finds.{row_read}
use Rattle.fork_tree.proofs.tree.ForkTree.row.Goals as goal
use Rattle.fork_tree.proofs.Counts.{rows_count}

pub returns-then-n-len : goal.returns-then-n-len
returns-then-n-len g c =
    let past : length c.args.self.now.rows ≤ c.args.n =
    omega (arith, c.if-n-len.true, c.len.ensures, rows_count _ c.self.inside.places.items c.self.inside.root _ c.self.view_is) in
    sym (ap (option_map (row_ref c.args.n)) (slice_get_past c.args.self.now.rows c.args.n past))

pub returns : goal.returns
returns g c =
    let known : c.args.n < length c.self.inside.places.items = omega (arith, c.if-n-len.false, c.len.ensures) in
    let place : slice_get c.self.inside.places.items c.args.n ≡ Some c.node_place-place.result =
    ap (λ x. slice_get x c.args.n) (sym c.deref.ensures.value) ∙ c.node_place-place.ensures in
    row_read c.self.inside.places.items c.self.inside.root c.node_of-node.result.now c.args.n c.q.result c.state.result c.node_place-place.result c.self.invariant.tree.placed known place
    (c.node_of-node.ensures ∙ ap (λ x. under (path_of x c.args.n) c.self.inside.root) c.deref-2.ensures.value) c.q.ensures c.state.ensures
    ∙ ap (λ (t : Tree). option_map (row_ref c.args.n) (slice_get t.rows c.args.n)) c.self.view_is
