use Rattle.fork_context.proofs.Common.{ℕ, ap, ◌∙◌, sym, ◌==◌, Table, is_finished}
use Rattle.fork_context.proofs.ForkRows.{none_open, finished_with_extras}
use Rattle.fork_context.proofs.fork.Fork.finished.Goals as goal

pub returns : goal.returns
returns g c =
    ap (λ (k : ℕ). k == 0) c.open_count.ensures ∙ none_open c.self.inside.tree.rows ∙ sym (finished_with_extras c.self.inside.tree.rows c.self.inside.extras)
    ∙ ap (λ (t : Table). is_finished t.rows) c.self.view_is
