use Rattle.fork_tree.proofs.Common.{◌∙◌, ◌++◌, ◌∷◌, [], ap, joined}
use Rattle.fork_tree.proofs.MadeBranches.{group_made}
use Rattle.fork_tree.proofs.node.whole.Goals as goal

pub returns : goal.returns
returns g c = group_made _ _ (joined 0 c.args.nodes.items) (c.in_ok-push.ensures.items ∙ ap (λ x. c.args.groups.items ++ x ∷ []) c.waiting.ensures)
