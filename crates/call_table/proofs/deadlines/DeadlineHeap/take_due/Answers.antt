use Rattle.std.proofs.Common.{ℕ, List, subst}
use Rattle.std.specs.Prelude.{IfSome}
use Rattle.call_table.specs.Deadlines.{IsEarliestDue, IsWithout}
use Rattle.call_table.proofs.deadlines.DeadlineHeap.take_due.Goals as goal

pub returns-clause-some : goal.returns-clause-some
returns-clause-some g c =
    let P : List (ℕ × ℕ) → Type 0 = λ deadlines. IfSome c.take_first_due.result (λ number. IsEarliestDue deadlines c.args.now number × IsWithout deadlines number c.take_first_due.new.deadlines.entries) in
    subst P c.self.view_is c.take_first_due.ensures.some
