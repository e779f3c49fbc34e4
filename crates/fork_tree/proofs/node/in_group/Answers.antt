use Rattle.fork_tree.proofs.Common.{◌∙◌, ◌++◌, ◌∷◌, [], ap}
use Rattle.fork_tree.proofs.MadeBranches.{group_begun}
use Rattle.fork_tree.proofs.node.in_group.Goals as goal

pub returns-in_ok-none-clause-same : goal.returns-in_ok-none-clause-same
returns-in_ok-none-clause-same g c = group_begun _ _ c.args.nodes.items _ (c.in_ok-push.ensures.items ∙ ap (λ x. c.args.groups.now.items ++ x ∷ []) c.waiting.ensures) c.in_ok-none.ensures
