use Rattle.std.proofs.Common.{◌≡◌, ℕ, List, Some, refl, subst}
use Rattle.call_table.specs.inner.KeyTable.{number_of}
use Rattle.call_table.proofs.shelf.Shelf.put_pending_at.Goals as goal

pub returns-in-Err-Known-clause-known : goal.returns-in-Err-Known-clause-known
returns-in-Err-Known-clause-known g c =
    let known = c.in-Err-Known.ensures.known c.in-Err-Known.no in
    let e = c.in-Err-Known.field-0-is in
    let f = c.in-Err-Known.no-is in
    let P : List ℕ → Type 0 = λ key. number_of c.args.key_table.now key ≡ Some c.in-Err-Known.no in
    (subst P c.deref.ensures.value (known.0 cc), refl)
