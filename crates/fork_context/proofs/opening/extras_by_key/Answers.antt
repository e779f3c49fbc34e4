use Rattle.fork_context.proofs.Common.{◌≡◌, ◌∙◌, ap, List, length, arith, filter_map, IfOk-weaker, RowExtras, target_extras}
use Rattle.fork_model.proofs.laws.GroupLemmas.{length-filter_map}
use Rattle.fork_context.proofs.opening.extras_by_key.Goals as goal

pub of-requires : goal.of-requires
of-requires g c =
    let extras = c.in_ok-target_extras.field-0.items in
    let made = filter_map (target_extras c.args.targets.now) c.args.order.now in
    let long : length extras ≡ length made = ap (λ (bs : List RowExtras). length bs) c.in_ok-target_extras.ensures in
    record { few = omega (arith, long, length-filter_map (target_extras c.args.targets.now) c.args.order.now, c.requires.few) }

pub returns : goal.returns
returns g c = IfOk-weaker c.of.result _ _ (λ extras is. is ∙ c.in_ok-target_extras.ensures) c.of.ensures
