use Rattle.fork_tree.proofs.Common.{ap, ◌∙◌, Tree, open_rows}
use Rattle.fork_tree.proofs.Counts.{counts_agree}
use Rattle.fork_tree.proofs.tree.ForkTree.open_count.Goals as goal

pub returns : goal.returns
returns g c =
    c.self.invariant.tree.summary.open_count ∙ counts_agree c.self.inside.places.items c.self.inside.root c.self.invariant.tree.placed c.self.invariant.tree.sized
    ∙ ap (λ (t : Tree). open_rows t.rows) c.self.view_is
