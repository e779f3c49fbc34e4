use Rattle.fork_tree.proofs.Common.{◌<◌, ◌∙◌, length, arith, ap, under, path_of}
use Rattle.fork_tree.proofs.Below.{is_subtree}
use Rattle.fork_tree.proofs.tree.ForkTree.node.Goals as goal
use Rattle.fork_tree.proofs.Counts.{rows_count}

pub returns-then-n-len : goal.returns-then-n-len
returns-then-n-len g c =
    omega (arith, c.if-n-len.true, c.len.ensures, rows_count _ c.self.inside.places.items c.self.inside.root _ c.self.view_is)

pub returns : goal.returns
returns g c =
    let known : c.args.n < length c.self.inside.places.items = omega (arith, c.if-n-len.false, c.len.ensures) in
    is_subtree c.self.inside.rules c.self.inside.places.items c.self.inside.root c.node_of.result.now c.self.inside.summary c.args.self.now c.args.n c.self.view_is
    c.self.invariant.tree known (c.node_of.ensures ∙ ap (λ x. under (path_of x c.args.n) c.self.inside.root) c.deref.ensures.value)
