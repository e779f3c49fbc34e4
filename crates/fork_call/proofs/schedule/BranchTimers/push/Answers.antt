use Rattle.fork_call.proofs.Common.{◌≡◌, ◌∙◌, ◌++◌, ◌∷◌, [], ap, length, sym, subst, true, false, Bool, List, Option, ℕ, comes_before, least_of, moment_at}
use Rattle.std.specs.Prelude.{if◌then◌else◌}
use Rattle.fork_call.proofs.Leasts.{first_as_before, last_is_first}
use Rattle.fork_call.proofs.schedule.BranchTimers.push.Goals as goal

pub invariant_of-self-then-is_first : goal.invariant_of-self-then-is_first
invariant_of-self-then-is_first g c =
    let moments = c.self.inside.moments.items in
    let P : List (Option ℕ) → Type 0 = λ ms. moment_at ms c.len-count.result ≡ least_of ms in
    let before : comes_before c.args.moment (least_of moments) ≡ true =
    ap (comes_before c.args.moment)
    (sym c.self.invariant ∙ ap (λ (ms : List (Option ℕ)). moment_at ms c.self.inside.first) (sym c.deref.ensures.value) ∙ sym c.moment_at.ensures)
    ∙ sym c.comes_before-is_first.ensures ∙ c.if-is_first.true in
    let pushed = c.push.ensures.items ∙ ap (λ (b : Bool). if b then moments ++ c.args.moment ∷ [] else moments) c.if-is_err.ensures.negation in
    let last : c.len-count.result ≡ length moments = c.len-count.ensures ∙ sym c.deref.ensures.len ∙ ap (λ (ms : List (Option ℕ)). length ms) c.deref.ensures.value in
    subst P (sym pushed) (last_is_first moments c.args.moment c.len-count.result last before)

pub invariant_of-self-else-is_first : goal.invariant_of-self-else-is_first
invariant_of-self-else-is_first g c =
    let moments = c.self.inside.moments.items in
    let P : List (Option ℕ) → Type 0 = λ ms. moment_at ms c.self.inside.first ≡ least_of ms in
    let before : comes_before c.args.moment (least_of moments) ≡ false =
    ap (comes_before c.args.moment)
    (sym c.self.invariant ∙ ap (λ (ms : List (Option ℕ)). moment_at ms c.self.inside.first) (sym c.deref.ensures.value) ∙ sym c.moment_at.ensures)
    ∙ sym c.comes_before-is_first.ensures ∙ c.if-is_first.false in
    let pushed = c.push.ensures.items ∙ ap (λ (b : Bool). if b then moments ++ c.args.moment ∷ [] else moments) c.if-is_err.ensures.negation in
    subst P (sym pushed) (first_as_before moments c.args.moment c.self.inside.first c.self.invariant before)
