use Rattle.std.proofs.Common.{Option, Some, ◌∙◌, ap, subst, sym}
use Rattle.std.specs.Fn.{FnOnceReturns}
use Rattle.binding_table.specs.Changes.{bindings_of}
use Rattle.binding_table.proofs.table.BindingTable.prepare_among.Goals as goal

pub returns-in-None-clause-called : goal.returns-in-None-clause-called
returns-in-None-clause-called g c =
    let called = c.called-changed.ensures in
    let P = λ (changed : Option g.row.T.Denot). FnOnceReturns g.F.FnOnce c.args.f (called.0, tt {0}) (changed, c.called-changed.result.1) in (
      called.0,
      subst P c.in-None.is called.1,
      cc (called.2, c.of_or-2.ensures, c.none-none.ensures),
    )

pub returns-clause-called : goal.returns-clause-called
returns-clause-called g c =
    let called = c.called-changed.ensures in
    let P = λ (changed : Option g.row.T.Denot). FnOnceReturns g.F.FnOnce c.args.f (called.0, tt {0}) (changed, c.called-changed.result.1) in (
      called.0,
      subst P (c.in-Some.is ∙ ap Some (sym (ap bindings_of c.in_ok-begin-in-Some.ensures.prepared))) called.1,
      cc (called.2, c.of_or-2.ensures, c.none-none.ensures),
    )
