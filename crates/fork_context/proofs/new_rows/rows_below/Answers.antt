use Rattle.fork_context.proofs.Common.{◌≡◌, ℕ, List, length, arith, ap, ◌∙◌, contact_qs}
use Rattle.fork_context.proofs.AddedRows.{added_sizes}
use Rattle.fork_context.proofs.NewRowGroups.{in_order}
use Rattle.fork_context.proofs.new_rows.rows_below.Goals as goal

pub idle-requires : goal.idle-requires
idle-requires g c =
    let all = in_order (contact_qs c.args.fresh.now) _ _ _ _ (c.deref.ensures.value ∙ c.in_ok-qs.ensures) (c.deref-2.ensures.value ∙ c.in_ok-qs.ensures)
    (c.deref-3.ensures.value ∙ c.in_ok-order.ensures) (c.deref-4.ensures.value ∙ c.in_ok-qs_at.ensures) in
    let same : length c.deref-4.result.now ≡ length c.args.fresh.now = ap (λ (xs : List ℕ). length xs) all ∙ (added_sizes c.args.fresh.now).1 in
    record { few = omega (arith, same, c.requires.few) }
