use Rattle.fork_context.proofs.Common.{true, refl, Rung, with_state, is_uncancelled}
use Rattle.fork_context.proofs.ForkRows.{tree_row_passes, table_changes, fork_rung}
use Rattle.fork_context.proofs.RowsWithExtras.{with_extras_state}
use Rattle.fork_context.proofs.fork.Fork.mark_cancel.Goals as goal

pub mark_cancel-requires : goal.mark_cancel-requires
mark_cancel-requires g c = tree_row_passes is_uncancelled _ _ c.self.inside.extras c.self.inside.tree _ c.args.n (λ end. refl) c.self.view_is c.requires.rang

pub invariant_of-self : goal.invariant_of-self
invariant_of-self g c =
    let passes = tree_row_passes is_uncancelled _ _ c.self.inside.extras c.self.inside.tree _ c.args.n (λ end. refl) c.self.view_is c.requires.rang in
    fork_rung is_uncancelled true c.self.inside.extras _ c.self.inside.tree _ c.args.n c.self.invariant (λ end. refl) passes c.mark_cancel.ensures

pub returns : goal.returns
returns g c =
    table_changes (λ rows. with_state rows c.args.n (Rung true)) _ _ c.self.inside.extras c.self.inside.tree _ _
    (with_extras_state c.self.inside.tree.rows c.self.inside.extras c.args.n (Rung true) (λ b. refl)) c.self.view_is c.mark_cancel.ensures
