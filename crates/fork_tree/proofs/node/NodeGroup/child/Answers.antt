use Rattle.fork_tree.proofs.Common.{[], ◌∙◌, arith, sym}
use Rattle.fork_tree.proofs.Unders.{child_in, child_under, under_none}
use Rattle.fork_tree.proofs.node.NodeGroup.child.Goals as goal

pub index-requires : goal.index-requires
index-requires g c = grind (arith, child_in)

pub returns : goal.returns
returns g c =
    sym (under_none c.index.result.now)
    ∙ child_under _ c.self.inside.nodes.items c.args.place c.index.result.now [] c.self.view_is c.index.ensures c.requires.there
