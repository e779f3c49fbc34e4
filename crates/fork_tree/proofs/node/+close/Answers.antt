use Rattle.fork_tree.proofs.Common.{◌<◌, ◌≤◌, length, arith, ap, joined, open_of}
use Rattle.fork_tree.proofs.Summaries.{open_le}
use Rattle.fork_tree.proofs.Closes.{close_part, close_more, close_done, count_more, node_closed}
use Rattle.fork_tree.proofs.node.+close.Goals as goal

pub Level::close-close-ended-requires : goal.Level::close-close-ended-requires
Level::close-close-ended-requires g t c κs within =
    let lt : c.loop-i.i < length c.loop-i.self-inside.groups.items = omega (arith, c.loop-i-test.true, c.len.ensures) in
    let few : length c.index_mut.result.now ≤ length c.args.self.now = close_part _ c.self.inside.groups.items c.loop-i.self-inside.groups.items c.loop-i.i c.index_mut.result.now c.self.view_is c.loop-i.invariant.closed c.index_mut.ensures.value lt in
    (omega (arith, c.decreases, few), (within, omega (arith, few, c.requires.few)))

pub Level::close-overflow_add-ended : goal.Level::close-overflow_add-ended
Level::close-overflow_add-ended g t c =
    let lt : c.loop-i.i < length c.loop-i.self-inside.groups.items = omega (arith, c.loop-i-test.true, c.len.ensures) in
    let few : length c.index_mut.result.now ≤ length c.args.self.now = close_part _ c.self.inside.groups.items c.loop-i.self-inside.groups.items c.loop-i.i c.index_mut.result.now c.self.view_is c.loop-i.invariant.closed c.index_mut.ensures.value lt in
    let all : open_of (joined 0 c.self.inside.groups.items) ≤ length (joined 0 c.self.inside.groups.items) = open_le (joined 0 c.self.inside.groups.items) in
    let one : open_of c.index_mut.result.now ≤ length c.index_mut.result.now = open_le c.index_mut.result.now in
    omega (arith, few, all, one, ap length c.self.view_is, c.requires.few, c.loop-i.invariant.counted, c.close-ended.ensures.counted)

pub Level::close-loop-i-preserved : goal.Level::close-loop-i-preserved
Level::close-loop-i-preserved g t c =
    let lt : c.loop-i.i < length c.loop-i.self-inside.groups.items = omega (arith, c.loop-i-test.true, c.len.ensures) in
    record {
      closed = close_more c.self.inside.groups.items c.loop-i.self-inside.groups.items c.loop-i.i c.index_mut.result.now _ c.loop-i.invariant.closed c.index_mut.ensures.value lt c.close-ended.ensures.closed;
      counted = count_more c.self.inside.groups.items c.loop-i.self-inside.groups.items c.loop-i.i c.index_mut.result.now _ _ _ c.index_mut.ensures.value lt c.loop-i.invariant.counted c.close-ended.ensures.counted;
    }

pub Level::close-returns-clause-closed : goal.Level::close-returns-clause-closed
Level::close-returns-clause-closed g t c =
    let past : length c.loop-i.self-inside.groups.items ≤ c.loop-i.i = omega (arith, c.loop-i-test.false, c.len.ensures) in
    close_done _ c.self.inside.groups.items c.loop-i.self-inside.groups.items c.loop-i.i c.self.view_is c.loop-i.invariant.closed past

pub NodeGroup::close-close-ended-requires : goal.NodeGroup::close-close-ended-requires
NodeGroup::close-close-ended-requires g t c κs within =
    let lt : c.loop-i.i < length c.loop-i.self-inside.nodes.items = omega (arith, c.loop-i-test.true, c.len.ensures) in
    let few : length c.index_mut.result.now ≤ length c.args.self.now = close_part _ c.self.inside.nodes.items c.loop-i.self-inside.nodes.items c.loop-i.i c.index_mut.result.now c.self.view_is c.loop-i.invariant.closed c.index_mut.ensures.value lt in
    (omega (arith, c.decreases, few), (within, omega (arith, few, c.requires.few)))

pub NodeGroup::close-overflow_add-ended : goal.NodeGroup::close-overflow_add-ended
NodeGroup::close-overflow_add-ended g t c =
    let lt : c.loop-i.i < length c.loop-i.self-inside.nodes.items = omega (arith, c.loop-i-test.true, c.len.ensures) in
    let few : length c.index_mut.result.now ≤ length c.args.self.now = close_part _ c.self.inside.nodes.items c.loop-i.self-inside.nodes.items c.loop-i.i c.index_mut.result.now c.self.view_is c.loop-i.invariant.closed c.index_mut.ensures.value lt in
    let all : open_of (joined 0 c.self.inside.nodes.items) ≤ length (joined 0 c.self.inside.nodes.items) = open_le (joined 0 c.self.inside.nodes.items) in
    let one : open_of c.index_mut.result.now ≤ length c.index_mut.result.now = open_le c.index_mut.result.now in
    omega (arith, few, all, one, ap length c.self.view_is, c.requires.few, c.loop-i.invariant.counted, c.close-ended.ensures.counted)

pub NodeGroup::close-loop-i-preserved : goal.NodeGroup::close-loop-i-preserved
NodeGroup::close-loop-i-preserved g t c =
    let lt : c.loop-i.i < length c.loop-i.self-inside.nodes.items = omega (arith, c.loop-i-test.true, c.len.ensures) in
    record {
      open_count = c.loop-i.invariant.open_count;
      closed = close_more c.self.inside.nodes.items c.loop-i.self-inside.nodes.items c.loop-i.i c.index_mut.result.now _ c.loop-i.invariant.closed c.index_mut.ensures.value lt c.close-ended.ensures.closed;
      counted = count_more c.self.inside.nodes.items c.loop-i.self-inside.nodes.items c.loop-i.i c.index_mut.result.now _ _ _ c.index_mut.ensures.value lt c.loop-i.invariant.counted c.close-ended.ensures.counted;
    }

pub NodeGroup::close-overflow_sub-self : goal.NodeGroup::close-overflow_sub-self
NodeGroup::close-overflow_sub-self g t c = omega (arith, c.loop-i.invariant.open_count, c.self.invariant, c.loop-i.invariant.counted)

pub NodeGroup::close-invariant_of-self : goal.NodeGroup::close-invariant_of-self
NodeGroup::close-invariant_of-self g t c = omega (arith, c.loop-i.invariant.open_count, c.self.invariant, c.loop-i.invariant.counted)

pub NodeGroup::close-returns-clause-closed : goal.NodeGroup::close-returns-clause-closed
NodeGroup::close-returns-clause-closed g t c =
    let past : length c.loop-i.self-inside.nodes.items ≤ c.loop-i.i = omega (arith, c.loop-i-test.false, c.len.ensures) in
    close_done _ c.self.inside.nodes.items c.loop-i.self-inside.nodes.items c.loop-i.i c.self.view_is c.loop-i.invariant.closed past

pub Node::close-invariant_of-self : goal.Node::close-invariant_of-self
Node::close-invariant_of-self g t c =
    node_closed _ _ _ _ _ _ _ _ _ _ c.self.invariant c.closed-self-inside.ensures c.close.ensures.closed c.open_count-before.ensures c.open_count.ensures c.close.ensures.counted
