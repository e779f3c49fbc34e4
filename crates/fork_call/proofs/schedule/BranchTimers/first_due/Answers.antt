use Rattle.fork_call.proofs.Common.{◌≡◌, ◌∙◌, ap, sym, subst, false, List, Option, ℕ, list_any, is_due, moment_at}
use Rattle.fork_call.proofs.Leasts.{none_due}
use Rattle.fork_call.proofs.schedule.BranchTimers.first_due.Goals as goal

pub returns-else-is_due-clause-none : goal.returns-else-is_due-clause-none
returns-else-is_due-clause-none g c =
    let P : List (Option ℕ) → Type 0 = λ ms. list_any (is_due c.args.now) ms ≡ false in
    let moments = c.self.inside.moments.items in
    let late = ap (λ (ms : List (Option ℕ)). is_due c.args.now (moment_at ms c.self.inside.first)) (sym c.deref.ensures.value)
    ∙ ap (is_due c.args.now) (sym c.moment_at.ensures) ∙ sym c.is_due.ensures ∙ c.if-is_due.false in
    subst P c.self.view_is (none_due c.args.now moments (ap (is_due c.args.now) (sym c.self.invariant) ∙ late))
