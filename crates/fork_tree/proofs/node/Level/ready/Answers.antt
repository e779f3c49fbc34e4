use Rattle.fork_tree.proofs.Common.{◌<◌, ◌≤◌, length, arith}
use Rattle.fork_tree.proofs.Groups.{over_more, group_found, all_over}
use Rattle.fork_tree.proofs.node.Level.ready.Goals as goal

pub returns-then-open_count-gt0 : goal.returns-then-open_count-gt0
returns-then-open_count-gt0 g c = grind (arith, group_found)

pub loop-i-preserved : goal.loop-i-preserved
loop-i-preserved g c =
    let lt : c.loop-i.i < length c.self.inside.groups.items = omega (arith, c.loop-i-test.true, c.len-i-end.ensures) in
    over_more _ c.self.inside.groups.items c.loop-i.i c.index-group.result.now c.open_count.result c.self.view_is c.loop-i.invariant lt c.index-group.ensures c.open_count.ensures
    c.if-open_count-gt0.false

pub returns : goal.returns
returns g c =
    let past : length c.self.inside.groups.items ≤ c.loop-i.i = omega (arith, c.loop-i-test.false, c.len-i-end.ensures) in
    all_over _ c.self.inside.groups.items c.loop-i.i c.self.view_is c.loop-i.invariant past
