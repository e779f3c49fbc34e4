use Rattle.fork_tree.proofs.Common.{◌≡◌, ◌<◌, ◌+◌, ◌++◌, ℕ, [], ◌∷◌, Some, length, drop, suc, if◌then◌else◌, arith, ap, sym, ◌∙◌, refl, NewRow, new_rows_from, new_rows_of, differs}
use Rattle.std.proofs.Common.{slice_index_or}
use Rattle.fork_tree.proofs.MadeBranches.{row_waiting_row, new_rows_more, begun_le, rest_le, waiting_more}
use Rattle.fork_tree.proofs.node.branches.Goals as goal

pub loop-i-preserved : goal.loop-i-preserved
loop-i-preserved g c =
    let q : ℕ = slice_index_or c.args.qs.now c.loop-i.i 0 in
    let s : NewRow = record { group = c.len.result; place = c.len-in-loop-i.result; q = q } in
    let lt : c.loop-i.i < length c.args.qs.now = omega (arith, c.loop-i-test.true, c.loop-i.auto.i-end) in
    let pushed : c.push.new.self.items ≡ c.loop-i.new_rows.items ++ s ∷ [] = c.in_ok-push.ensures.items in
    let group : s.group ≡ length c.in_group.new.groups.items = omega (arith, c.len.ensures) in
    let place : s.place ≡ length c.in_ok-nodes-2.nodes.items = omega (arith, c.len-in-loop-i.ensures) in
    let next : s.place + 1 ≡ length c.push-in-loop-i.new.self.items = omega (arith, c.len-in-loop-i.ensures, c.in_ok-push-2.ensures.len) in
    let groups : length c.in_group.new.groups.items ≡ (if differs c.loop-i.before q then suc (length c.loop-i.groups.items) else length c.loop-i.groups.items) =
    c.in_ok-nodes-2.ensures.groups ∙ ap (λ b. if b then suc (length c.loop-i.groups.items) else length c.loop-i.groups.items) c.another.ensures in
    let nodes : length c.in_ok-nodes-2.nodes.items ≡ (if differs c.loop-i.before q then 0 else length c.loop-i.nodes.items) =
    c.in_ok-nodes-2.ensures.nodes ∙ ap (λ b. if b then 0 else length c.loop-i.nodes.items) c.another.ensures in
    let more : (c.loop-i.new_rows.items ++ s ∷ []) ++ new_rows_from (Some q) s.group (s.place + 1) (drop (c.loop-i.i + 1) c.args.qs.now) ≡ new_rows_of c.args.qs.now =
    new_rows_more c.args.qs.now c.loop-i.i c.loop-i.new_rows.items (new_rows_of c.args.qs.now) c.loop-i.before _ _ s c.loop-i.invariant.waiting_row lt refl
    (group ∙ groups) (place ∙ nodes) in
    record {
      placed = rw pushed (row_waiting_row _ _ _ c.args.first (c.args.first + c.loop-i.i) c.loop-i.new_rows.items s (c.in_ok-nodes-2.ensures.same ∙ c.loop-i.invariant.placed)
          (omega (arith, c.loop-i.invariant.count)) group place
          (c.in_ok-push-2.ensures.items ∙ ap (λ x. c.in_ok-nodes-2.nodes.items ++ x ∷ []) c.idle.ensures));
      waiting_row = ap (λ x. x ++ new_rows_from (Some q) (length c.in_group.new.groups.items) (length c.push-in-loop-i.new.self.items) (drop (c.loop-i.i + 1) c.args.qs.now)) pushed
          ∙ ap (λ x. (c.loop-i.new_rows.items ++ s ∷ []) ++ new_rows_from (Some q) x (length c.push-in-loop-i.new.self.items) (drop (c.loop-i.i + 1) c.args.qs.now)) (sym group)
          ∙ ap (λ x. (c.loop-i.new_rows.items ++ s ∷ []) ++ new_rows_from (Some q) s.group x (drop (c.loop-i.i + 1) c.args.qs.now)) (sym next)
          ∙ more;
      count = omega (arith, c.loop-i.invariant.count, c.in_ok-push.ensures.len);
      waiting = waiting_more c.in_ok-nodes-2.nodes.items c.push-in-loop-i.new.self.items (c.args.first + c.loop-i.i) q c.in_ok-nodes-2.ensures.waiting
          (c.in_ok-push-2.ensures.items ∙ ap (λ x. c.in_ok-nodes-2.nodes.items ++ x ∷ []) c.idle.ensures);
      groups_few = omega (arith, groups, begun_le (differs c.loop-i.before q) _ _ c.loop-i.invariant.groups_few);
      nodes_few = omega (arith, next, place, nodes, rest_le (differs c.loop-i.before q) _ _ c.loop-i.invariant.nodes_few);
    }
