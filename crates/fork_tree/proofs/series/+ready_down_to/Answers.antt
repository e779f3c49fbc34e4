use Rattle.fork_tree.proofs.Common.{◌∙◌, ap, sym, subst, under, rows_of, FindsOnWay, common_steps, arith}
use Rattle.fork_tree.proofs.Traces.{path_below, path_top}
use Rattle.fork_tree.proofs.Unders.{under_twice}
use Rattle.fork_tree.proofs.Below.{further_there}
use Rattle.fork_tree.proofs.Levels.{top_finds, way_finds}
use Rattle.fork_tree.proofs.series.+ready_down_to.Goals as goal

pub child-node-requires : goal.child-node-requires
child-node-requires g t c = grind (arith, further_there)

pub returns-in-Some-clause-node : goal.returns-in-Some-clause-node
returns-in-Some-clause-node g t c = grind (arith, under_twice, path_below)

pub returns-in-Some-clause-found : goal.returns-in-Some-clause-found
returns-in-Some-clause-found g t c = grind (arith, common_steps, under_twice, path_below, way_finds)

pub returns-in-None-clause-found : goal.returns-in-None-clause-found
returns-in-None-clause-found g t c =
    way_finds c.args.places.now c.args.root.now c.child-node-in-None.result.now c.args.n c.node_place-place.result c.ready.result c.or_below-in-None.result c.requires.shape
    c.node_place-place.ensures
    (c.child-node-in-None.ensures ∙ ap (λ x. under x c.args.root.now) (sym (path_top c.args.places.now c.args.n c.node_place-place.result c.node_place-place.ensures c.in-None.is)))
    (subst (λ o. FindsOnWay (rows_of c.args.places.now c.args.root.now) o c.ready.result) (sym c.in-None.is)
    (top_finds c.args.places.now c.args.root.now c.ready.result c.requires.shape c.ready.ensures)) c.or_below-in-None.ensures
