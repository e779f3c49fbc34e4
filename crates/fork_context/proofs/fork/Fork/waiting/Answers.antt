use Rattle.fork_context.proofs.Common.{◌≡◌, ◌∙◌, ap, refl, List, ℕ, false, length, map, arith, None, filter_map, length-map, numbered, Tree, waiting_row, new_rows_of, q_of_pair, target_extras, common_steps}
use Rattle.fork_context.proofs.NewRowGroups.{in_order}
use Rattle.fork_context.proofs.ForkEnd.{fork_same}
use Rattle.fork_context.proofs.OpeningFork.{target_qs, target_new_rows, opening_with_extras, opening_fork, length_ordered}
use Rattle.fork_context.proofs.fork.Fork.waiting.Goals as goal

pub new-requires : goal.new-requires
new-requires g c =
    let targets = c.args.targets.now in
    grind (arith, common_steps, target_qs targets, length_ordered targets, in_order)

pub qs_in_order-requires : goal.qs_in_order-requires
qs_in_order-requires g c = c.deref-2.ensures.value ∙ c.in_ok-order.ensures ∙ ap numbered c.deref.ensures.value

pub extras_by_key-requires : goal.extras_by_key-requires
extras_by_key-requires g c =
    let pairs = numbered (target_qs c.args.targets.now) in
    let order = c.deref-4.ensures.value ∙ c.in_ok-order.ensures ∙ ap numbered (c.deref.ensures.value ∙ c.in_ok-qs.ensures.value) in
    let long = ap (λ (ps : List (ℕ × ℕ)). length ps) order in
    let each = length-map pairs (q_of_pair (target_qs c.args.targets.now)) in
    record { few = omega (arith, long, each, length_ordered c.args.targets.now, c.requires.few) }

pub of-requires : goal.of-requires
of-requires g c =
    let targets = c.args.targets.now in
    let ordered = in_order (target_qs targets) _ _ _ _ (c.deref.ensures.value ∙ c.in_ok-qs.ensures.value) c.in_ok-qs.ensures.value
    (c.deref-2.ensures.value ∙ c.in_ok-order.ensures) (c.deref-3.ensures.value ∙ c.in_ok-ordered.ensures) in
    let rows : c.in_ok-tree.tree.rows ≡ map (waiting_row None) (target_new_rows targets) =
    ap (λ (t : Tree). t.rows) c.in_ok-tree.ensures ∙ ap (λ (vs : List ℕ). map (waiting_row None) (new_rows_of vs)) ordered in
    let extras : c.in_ok-extras.extras ≡ filter_map (target_extras targets) (numbered (target_qs targets)) =
    c.in_ok-extras.ensures
    ∙ ap (filter_map (target_extras targets)) (c.deref-4.ensures.value ∙ c.in_ok-order.ensures ∙ ap numbered (c.deref.ensures.value ∙ c.in_ok-qs.ensures.value)) in
    fork_same _ _ _ _ false false rows extras refl (opening_fork targets c.requires.few)

pub returns-clause-value : goal.returns-clause-value
returns-clause-value g c =
    let targets = c.args.targets.now in
    grind (arith, common_steps, target_qs targets, target_new_rows targets, opening_with_extras targets, in_order)

pub returns-clause-range : goal.returns-clause-range
returns-clause-range g c = c.in_ok-qs.ensures.range
