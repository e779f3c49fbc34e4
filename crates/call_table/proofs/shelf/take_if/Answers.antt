use Rattle.std.proofs.Common.{◌≡◌, true, subst}
use Rattle.std.specs.Fn.{FnOnceReturnsAtMut}
use Rattle.call_table.proofs.shelf.take_if.Goals as goal

pub returns-in-Some-false-clause-left : goal.returns-in-Some-false-clause-left
returns-in-Some-false-clause-left g c =
    let (old, new, number, said) = c.in-Some-false.ensures in
    (old, new, number, subst (λ r. FnOnceReturnsAtMut g.F.FnOnce c.args.f old r new) c.in-Some-false.field-0-test said)

pub returns-clause-taken : goal.returns-clause-taken
returns-clause-taken g c =
    let (old, new, number, said) = c.in-Some-true.ensures in
    (old, new, number, subst (λ r. FnOnceReturnsAtMut g.F.FnOnce c.args.f old r new) c.in-Some-true.field-0-test said)
