use Rattle.std.proofs.Common.{option_map}
use Rattle.std.specs.Fn.{FnOnceReturnsAt}
use Rattle.binding_table.specs.Changes.{bindings_of}
use Rattle.binding_table.specs.inner.Users.{held}
use Rattle.binding_table.proofs.Found.{at_some}
use Rattle.binding_table.proofs.table.BindingTable.prepare.Goals as goal

pub returns-clause-called : goal.returns-clause-called
returns-clause-called g c =
    at_some c.prepare_among.result (λ (x : g.row.T.Denot) made. FnOnceReturnsAt g.F.FnOnce c.args.f x (option_map (bindings_of {T = g.row.T.Denot}) made.0, made.1))
    (held g.T.Holding.none c.deref_mut.result.now c.args.user.now) c.prepare_among.ensures.called
