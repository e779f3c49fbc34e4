use Rattle.fork_tree.proofs.Common.{◌<◌, ◌≤◌, length, arith}
use Rattle.fork_tree.proofs.Groups.{waiting_more, one_started, all_waiting}
use Rattle.fork_tree.proofs.node.NodeGroup.ready.Goals as goal

pub returns-then-not-waits : goal.returns-then-not-waits
returns-then-not-waits g c =
    let lt : c.loop-i.i < length c.self.inside.nodes.items = omega (arith, c.loop-i-test.true, c.len-i-end.ensures) in
    one_started _ c.self.inside.nodes.items c.loop-i.i c.index.result.now c.waits.result c.self.view_is lt c.index.ensures c.waits.ensures c.if-not-waits.true

pub loop-i-preserved : goal.loop-i-preserved
loop-i-preserved g c =
    let lt : c.loop-i.i < length c.self.inside.nodes.items = omega (arith, c.loop-i-test.true, c.len-i-end.ensures) in
    waiting_more c.self.inside.nodes.items c.loop-i.i c.index.result.now c.waits.result c.loop-i.invariant lt c.index.ensures c.waits.ensures c.if-not-waits.false

pub returns : goal.returns
returns g c =
    let past : length c.self.inside.nodes.items ≤ c.loop-i.i = omega (arith, c.loop-i-test.false, c.len-i-end.ensures) in
    all_waiting _ c.self.inside.nodes.items c.index-2.result.now c.loop-i.i c.number.result c.self.inside.open_count c.self.view_is c.requires.goes_on c.self.invariant past c.loop-i.invariant
    c.index-2.ensures c.number.ensures
