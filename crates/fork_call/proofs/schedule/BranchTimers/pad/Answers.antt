use Rattle.fork_call.proofs.Common.{◌≡◌, sym, subst, List, Option, ℕ, least_of, moment_at}
use Rattle.fork_call.proofs.Leasts.{first_padded}
use Rattle.fork_call.proofs.schedule.BranchTimers.pad.Goals as goal

pub invariant_of-self-2 : goal.invariant_of-self-2
invariant_of-self-2 g c =
    let P : List (Option ℕ) → Type 0 = λ ms. moment_at ms c.self.inside.first ≡ least_of ms in
    subst P (sym c.pad.ensures)
    (first_padded c.reserve.new.self.items c.args.count c.self.inside.first (subst P (sym c.reserve.ensures.items) c.self.invariant))
