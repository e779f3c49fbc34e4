use Rattle.context_values.proofs.Common.{List, Parted, RowExtras, common_steps, arith}
use Rattle.context_values.proofs.ByKeySteps.{found}
use Rattle.context_values.proofs.extras_table.ExtrasTable.has_key.Goals as goal

pub returns : goal.returns
returns g c =
    let key = c.args.key.now in
    let place = c.key_place-place.result in
    let P : List RowExtras → Type 0 = λ all. Parted all key c.deref-2.result.now place in
    grind (arith, common_steps, found)
