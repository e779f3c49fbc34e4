use Rattle.context_values.proofs.Common.{◌≡◌, List, length, arith, ap, subst, sym, ◌∙◌, IsByKey, RowExtras, common_steps}
use Rattle.context_values.proofs.ByKeySteps.{by_key_stored, set_stored}
use Rattle.context_values.proofs.extras_table.ExtrasTable.store.Goals as goal

pub invariant_of-self : goal.invariant_of-self
invariant_of-self g c =
    let left = c.args.left.items in
    let challenges = c.args.challenges.items in
    let stored : RowExtras → RowExtras = λ (b : RowExtras). record b { left = left; challenges = challenges } in
    let same : length c.self.inside.all.items ≡ length c.args.self.now = ap (λ (bs : List RowExtras). length bs) c.self.view_is in
    let P : List RowExtras → Type 0 = λ bs. IsByKey bs (length bs) c.self.inside.by_key.items in
    subst P (sym (set_stored c.self.inside.all.items c.args.n c.index_mut.result.now c.store.new.self left challenges (omega (arith, same, c.requires.there))
    (c.store.ensures ∙ ap stored c.index_mut.ensures.value)))
    (by_key_stored c.self.inside.all.items c.self.inside.by_key.items c.args.n left challenges c.self.invariant)

pub returns : goal.returns
returns g c =
    let left = c.args.left.items in
    let challenges = c.args.challenges.items in
    let stored : RowExtras → RowExtras = λ (b : RowExtras). record b { left = left; challenges = challenges } in
    grind (arith, common_steps, set_stored)
