use Rattle.fork_context.proofs.Common.{◌≡◌, ◌∙◌, sym, subst, false, arith, suc, add-one, ℕ, Table, Core, is_full, next, event_of, IsKept}
use Rattle.fork_context.proofs.SoundSteps.{kept_next, taken_small}
use Rattle.fork_context.proofs.context.Context.take.Goals as goal

pub overflow_add-self : goal.overflow_add-self
overflow_add-self g c = omega (arith, taken_small c.self.inside.fork c.self.inside.taken c.self.invariant.sound)

pub invariant_of-self-2 : goal.invariant_of-self-2
invariant_of-self-2 g c =
    let core : Core = record { table = c.self.inside.fork; taken = c.self.inside.taken } in
    let event = event_of c.args.event.now in
    let OpenYet : Core → Type 0 = λ x. is_full x event ≡ false in
    let open_yet : is_full core event ≡ false = subst OpenYet (sym c.self.view_is) (sym c.is_full.ensures ∙ c.if-is_full.false) in
    let follows : c.take.new.self ≡ next core.table event core.taken = c.in-Ok.ensures.next in
    let kept : IsKept (next core.table event core.taken) (suc core.taken) = kept_next core event open_yet c.read_range.ensures c.self.invariant in
    subst (λ (n : ℕ). IsKept c.take.new.self n) (sym (add-one core.taken)) (subst (λ (t : Table). IsKept t (suc core.taken)) (sym follows) kept)
