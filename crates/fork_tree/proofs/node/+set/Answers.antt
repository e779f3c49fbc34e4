use Rattle.fork_tree.proofs.Common.{◌≡◌, ◌<◌, length, arith, ap, refl, if◌then◌else◌, Bool, unanswered, open_of, open_state, ℕ, [], List, Entry, subst, sym, node_rows, Changes}
use Rattle.fork_tree.proofs.BranchChanges.{step_in, step_open, none_here, at_node}
use Rattle.fork_tree.proofs.Summaries.{step_changes, node_changes, node_past, node_below}
use Rattle.fork_tree.proofs.node.+set.Goals as goal

pub Level::set-index_mut-requires : goal.Level::set-index_mut-requires
Level::set-index_mut-requires g t c =
    let h : c.in-Some.first.now < length c.self.inside.groups.items = step_in _ c.self.inside.groups.items _ _ _ c.self.view_is c.in-Some.ensures.cases.0 c.requires.there in omega arith

pub Level::set-set-requires : goal.Level::set-set-requires
Level::set-set-requires g t c κs within =
    let there = step_open _ c.self.inside.groups.items _ _ _ _ c.self.view_is c.in-Some.ensures.cases.0 c.index_mut.ensures.value c.requires.there in
    (omega (arith, c.decreases, c.in-Some.ensures.cases.1), (within, (there, c.requires.waits)))

pub Level::set-returns-in-Some : goal.Level::set-returns-in-Some
Level::set-returns-in-Some g t c =
    step_changes _ c.self.inside.groups.items _ _ _ _ _ _ _ _ c.self.view_is c.in-Some.ensures.cases.0 c.index_mut.ensures.value c.requires.there c.set.ensures

pub Level::set-returns-in_default : goal.Level::set-returns-in_default
Level::set-returns-in_default g t c = absurd (none_here _ c.self.inside.groups.items _ c.self.view_is c.in_default.ensures.cases c.requires.there)

pub NodeGroup::set-index_mut-requires : goal.NodeGroup::set-index_mut-requires
NodeGroup::set-index_mut-requires g t c =
    let h : c.in-Some.first.now < length c.self.inside.nodes.items = step_in _ c.self.inside.nodes.items _ _ _ c.self.view_is c.in-Some.ensures.cases.0 c.requires.there in omega arith

pub NodeGroup::set-set-requires : goal.NodeGroup::set-set-requires
NodeGroup::set-set-requires g t c κs within =
    let there = step_open _ c.self.inside.nodes.items _ _ _ _ c.self.view_is c.in-Some.ensures.cases.0 c.index_mut.ensures.value c.requires.there in
    (omega (arith, c.decreases, c.in-Some.ensures.cases.1), (within, (there, c.requires.waits)))

pub NodeGroup::set-returns-in-Some : goal.NodeGroup::set-returns-in-Some
NodeGroup::set-returns-in-Some g t c =
    step_changes _ c.self.inside.nodes.items _ _ _ _ _ _ _ _ c.self.view_is c.in-Some.ensures.cases.0 c.index_mut.ensures.value c.requires.there c.set.ensures

pub NodeGroup::set-returns-in_default : goal.NodeGroup::set-returns-in_default
NodeGroup::set-returns-in_default g t c = absurd (none_here _ c.self.inside.nodes.items _ c.self.view_is c.in_default.ensures.cases c.requires.there)

pub NodeGroup::set-invariant_of-self : goal.NodeGroup::set-invariant_of-self
NodeGroup::set-invariant_of-self g t c =
    let change = step_changes _ c.self.inside.nodes.items _ _ _ _ _ _ _ _ c.self.view_is c.in-Some.ensures.cases.0 c.index_mut.ensures.value c.requires.there
    c.set.ensures in
    omega (arith, c.self.invariant, ap open_of c.self.view_is, change.counted)

pub Node::set-invariant_of-self-else-is_empty : goal.Node::set-invariant_of-self-else-is_empty
Node::set-invariant_of-self-else-is_empty g t c =
    node_below _ _ _ _ _ c.self.inside.summary c.self.inside.summary _ _ _ _ c.self.invariant c.set.ensures refl refl

pub Node::set-returns-then-is_empty : goal.Node::set-returns-then-is_empty
Node::set-returns-then-is_empty g t c =
    let empty : length c.args.path.now ≡ 0 = grind arith in
    let on : open_state c.args.state ≡ 1 = ap {B = ℕ} (λ (x : Bool). if x then 0 else 1) c.requires.waits in
    let none : c.self.inside.below ≡ [] = c.self.invariant.tried (at_node _ _ _ _ c.self.view_is empty c.requires.there) in
    let P : List Entry → Type 0 =
    λ x. Changes c.args.self.now (node_rows c.self.inside.number c.self.inside.q (unanswered c.args.state) x) c.args.path.now (unanswered c.args.state) [] 1 in
    subst P (sym none) (node_changes _ c.self.inside.below [] _ _ _ _ (unanswered c.args.state) _ _ c.self.view_is empty c.self.invariant c.requires.there
    (λ k h. h) (omega (arith, on)))

pub Node::set-returns-else-is_empty : goal.Node::set-returns-else-is_empty
Node::set-returns-else-is_empty g t c =
    let some : 0 < length c.args.path.now = grind arith in
    node_past _ c.self.inside.below _ _ _ _ _ _ c.self.view_is some c.set.ensures
