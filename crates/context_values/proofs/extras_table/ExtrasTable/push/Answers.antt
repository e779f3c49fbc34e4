use Rattle.context_values.proofs.Common.{rules, ◌≡◌, ◌∷◌, [], length, ◌∙◌}
use Rattle.context_values.proofs.ByKeySteps.{by_key_grown}
use Rattle.context_values.proofs.extras_table.ExtrasTable.push.Goals as goal

pub number_keys-requires-clause-so_far : goal.number_keys-requires-clause-so_far
number_keys-requires-clause-so_far g c =
    let count : c.len-count.result ≡ length c.self.inside.all.items = search rules in
    by_key_grown c.self.inside.all.items (c.args.row_extras ∷ []) _ _ _ _ c.self.invariant (c.deref.ensures.value ∙ c.in_ok-push.ensures.items)
    c.in_ok-reserve.ensures.items count
