use Rattle.fork_tree.proofs.Common.{◌≡◌, ◌<◌, length, arith, ap, if◌then◌else◌, Bool, open_of, open_state, ℕ}
use Rattle.fork_tree.proofs.BranchChanges.{step_in, step_few, none_here}
use Rattle.fork_tree.proofs.Summaries.{step_changes, open_some, open_le, node_changes, node_past, node_below}
use Rattle.fork_tree.proofs.node.+end.Goals as goal

pub Level::end-index_mut-requires : goal.Level::end-index_mut-requires
Level::end-index_mut-requires g t c =
    let h : c.in-Some.first.now < length c.self.inside.groups.items = step_in _ c.self.inside.groups.items _ _ _ c.self.view_is c.in-Some.ensures.cases.0 c.requires.there in omega arith

pub Level::end-end-requires : goal.Level::end-end-requires
Level::end-end-requires g t c κs within = (
  omega (arith, c.decreases, c.in-Some.ensures.cases.1),
  (within, step_few _ c.self.inside.groups.items _ _ _ _ _ _ _ c.self.view_is c.in-Some.ensures.cases.0 c.index_mut.ensures.value c.requires),
)

pub Level::end-returns-in-Some : goal.Level::end-returns-in-Some
Level::end-returns-in-Some g t c =
    step_changes _ c.self.inside.groups.items _ _ _ _ _ _ _ _ c.self.view_is c.in-Some.ensures.cases.0 c.index_mut.ensures.value c.requires.there c.end.ensures

pub Level::end-returns-in_default : goal.Level::end-returns-in_default
Level::end-returns-in_default g t c = absurd (none_here _ c.self.inside.groups.items _ c.self.view_is c.in_default.ensures.cases c.requires.there)

pub NodeGroup::end-index_mut-requires : goal.NodeGroup::end-index_mut-requires
NodeGroup::end-index_mut-requires g t c =
    let h : c.in-Some.first.now < length c.self.inside.nodes.items = step_in _ c.self.inside.nodes.items _ _ _ c.self.view_is c.in-Some.ensures.cases.0 c.requires.there in omega arith

pub NodeGroup::end-end-requires : goal.NodeGroup::end-end-requires
NodeGroup::end-end-requires g t c κs within = (
  omega (arith, c.decreases, c.in-Some.ensures.cases.1),
  (within, step_few _ c.self.inside.nodes.items _ _ _ _ _ _ _ c.self.view_is c.in-Some.ensures.cases.0 c.index_mut.ensures.value c.requires),
)

pub NodeGroup::end-returns-in-Some : goal.NodeGroup::end-returns-in-Some
NodeGroup::end-returns-in-Some g t c =
    step_changes _ c.self.inside.nodes.items _ _ _ _ _ _ _ _ c.self.view_is c.in-Some.ensures.cases.0 c.index_mut.ensures.value c.requires.there c.end.ensures

pub NodeGroup::end-returns-in_default : goal.NodeGroup::end-returns-in_default
NodeGroup::end-returns-in_default g t c = absurd (none_here _ c.self.inside.nodes.items _ c.self.view_is c.in_default.ensures.cases c.requires.there)

pub NodeGroup::end-overflow_add-self : goal.NodeGroup::end-overflow_add-self
NodeGroup::end-overflow_add-self g t c =
    omega (arith, c.self.invariant, ap open_of c.self.view_is, open_le c.args.self.now, c.requires.opens, open_le c.args.below, c.requires.few)

pub NodeGroup::end-overflow_sub-self : goal.NodeGroup::end-overflow_sub-self
NodeGroup::end-overflow_sub-self g t c =
    omega (arith, c.self.invariant, ap open_of c.self.view_is, open_some c.args.self.now c.args.path.now c.requires.there)

pub NodeGroup::end-invariant_of-self : goal.NodeGroup::end-invariant_of-self
NodeGroup::end-invariant_of-self g t c =
    let change = step_changes _ c.self.inside.nodes.items _ _ _ _ _ _ _ _ c.self.view_is c.in-Some.ensures.cases.0 c.index_mut.ensures.value c.requires.there
    c.end.ensures in
    omega (arith, c.self.invariant, ap open_of c.self.view_is, open_some c.args.self.now c.args.path.now c.requires.there, change.counted)

pub Node::end-after-self-inside-requires-clause-some : goal.Node::end-after-self-inside-requires-clause-some
Node::end-after-self-inside-requires-clause-some g t c =
    omega (arith, c.self.invariant.summary.open_count, ap open_of c.self.view_is, open_some c.args.self.now c.args.path.now c.requires.there)

pub Node::end-after-self-inside-requires-clause-fits : goal.Node::end-after-self-inside-requires-clause-fits
Node::end-after-self-inside-requires-clause-fits g t c =
    omega (arith, c.self.invariant.summary.open_count, ap open_of c.self.view_is, open_le c.args.self.now, c.requires.opens, open_le c.args.below, c.requires.few)

pub Node::end-invariant_of-self-else-is_empty : goal.Node::end-invariant_of-self-else-is_empty
Node::end-invariant_of-self-else-is_empty g t c =
    node_below _ _ _ _ _ c.self.inside.summary _ _ _ _ _ c.self.invariant c.end.ensures c.after-self-inside.ensures.kept c.after-self-inside.ensures.open_count

pub Node::end-returns-then-is_empty : goal.Node::end-returns-then-is_empty
Node::end-returns-then-is_empty g t c =
    let empty : length c.args.path.now ≡ 0 = grind arith in
    let ended : open_state c.args.standing.state ≡ 0 = ap {B = ℕ} (λ (x : Bool). if x then 0 else 1) c.requires.ended in
    node_changes _ c.self.inside.below _ _ _ _ _ _ _ _ c.self.view_is empty c.self.invariant c.requires.there c.requires.fresh
    (omega (arith, ended, c.requires.opens))

pub Node::end-returns-else-is_empty : goal.Node::end-returns-else-is_empty
Node::end-returns-else-is_empty g t c =
    let some : 0 < length c.args.path.now = grind arith in
    node_past _ c.self.inside.below _ _ _ _ _ _ c.self.view_is some c.end.ensures
