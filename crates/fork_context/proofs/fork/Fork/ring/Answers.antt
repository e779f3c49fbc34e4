use Rattle.fork_context.proofs.Common.{false, refl, Rung, with_state, is_trying}
use Rattle.fork_context.proofs.ForkRows.{tree_row_passes, table_changes, fork_rung}
use Rattle.fork_context.proofs.RowsWithExtras.{with_extras_state}
use Rattle.fork_context.proofs.fork.Fork.ring.Goals as goal

pub ring-requires : goal.ring-requires
ring-requires g c = tree_row_passes is_trying _ _ c.self.inside.extras c.self.inside.tree _ c.args.n (λ end. refl) c.self.view_is c.requires.tried

pub invariant_of-self : goal.invariant_of-self
invariant_of-self g c =
    let passes = tree_row_passes is_trying _ _ c.self.inside.extras c.self.inside.tree _ c.args.n (λ end. refl) c.self.view_is c.requires.tried in
    fork_rung is_trying false c.self.inside.extras _ c.self.inside.tree _ c.args.n c.self.invariant (λ end. refl) passes c.ring.ensures

pub returns : goal.returns
returns g c =
    table_changes (λ rows. with_state rows c.args.n (Rung false)) _ _ c.self.inside.extras c.self.inside.tree _ _
    (with_extras_state c.self.inside.tree.rows c.self.inside.extras c.args.n (Rung false) (λ b. refl)) c.self.view_is c.ring.ensures
