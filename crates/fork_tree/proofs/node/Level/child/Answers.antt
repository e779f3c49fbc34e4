use Rattle.fork_tree.proofs.Common.{[], ◌∷◌, ◌∙◌, arith}
use Rattle.fork_tree.proofs.Unders.{child_in, child_there, child_under}
use Rattle.fork_tree.proofs.node.Level.child.Goals as goal

pub index-requires : goal.index-requires
index-requires g c = grind (arith, child_in)

pub child-requires : goal.child-requires
child-requires g c = grind (arith, child_there)

pub returns : goal.returns
returns g c =
    c.child.ensures ∙ child_under _ c.self.inside.groups.items c.args.group c.index.result.now (c.args.place ∷ []) c.self.view_is c.index.ensures c.requires.there
