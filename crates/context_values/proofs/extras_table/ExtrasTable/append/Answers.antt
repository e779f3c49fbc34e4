use Rattle.context_values.proofs.Common.{rules, ◌≡◌, length, ◌∙◌}
use Rattle.context_values.proofs.ByKeySteps.{by_key_grown}
use Rattle.context_values.proofs.extras_table.ExtrasTable.append.Goals as goal

pub number_keys-requires-clause-so_far : goal.number_keys-requires-clause-so_far
number_keys-requires-clause-so_far g c =
    let count : c.len-count.result ≡ length c.self.inside.all.items = search rules in
    by_key_grown c.self.inside.all.items c.args.fresh.items _ _ _ _ c.self.invariant (c.deref.ensures.value ∙ c.in_ok-append.ensures.items)
    c.in_ok-reserve.ensures.items count
