use Rattle.fork_call.proofs.Common.{◌≡◌, ◌∙◌, ap, refl, sym, subst, false, true, [], ◌∷◌, List, Option, Some, length, ℕ, suc, arith, ◌==◌, eqb-true, earlier, Call, IsLeastDue, is_any, least_of}
use Rattle.call_model.specs.Server as server
use Rattle.fork_call.proofs.LeastDue.{least_due, owed_due}
use Rattle.fork_call.proofs.call.Call.due.Goals as goal

some_owed : (owed : List server.Owed) → (length owed == 0) ≡ false → is_any owed ≡ true
some_owed [] e = absurd cc
some_owed (o ∷ owed) e = refl

none_owed : (owed : List server.Owed) → (length owed == 0) ≡ true → owed ≡ []
none_owed [] e = refl
none_owed (o ∷ owed) e = absurd (let h : suc (length owed) ≡ 0 = eqb-true (suc (length owed)) 0 e in omega arith)

pub returns-then-not-is_empty : goal.returns-then-not-is_empty
returns-then-not-is_empty g c =
    let P : Call → Type 0 = λ x. IsLeastDue x (Some 0) in
    let size : (length c.self.inside.state.server.owed == 0) ≡ false =
    ap (λ (owed : List server.Owed). length owed == 0) (sym c.owed.ensures) ∙ sym c.is_empty.ensures ∙ c.if-not-is_empty.true in
    subst P c.self.view_is (owed_due c.self.inside.state (some_owed c.self.inside.state.server.owed size))

pub returns : goal.returns
returns g c =
    let P : Call → Type 0 = λ x. IsLeastDue x c.earlier.result in
    let Q : Option ℕ → Type 0 = λ least. IsLeastDue c.self.inside.state least in
    let size : (length c.owed.result == 0) ≡ true = sym c.is_empty.ensures ∙ c.if-not-is_empty.false in
    let none : c.self.inside.state.server.owed ≡ [] = sym c.owed.ensures ∙ none_owed c.owed.result size in
    let least = least_due c.self.inside.state none c.is_sized.ensures.each_branch in
    let moments = ap (λ (ms : List (Option ℕ)). least_of ms) c.self.invariant.times in
    let same = ap (λ (x : Option ℕ). earlier (server.served_due c.self.inside.state.server.machine) x) (sym moments ∙ sym c.least.ensures)
    ∙ ap (λ (x : Option ℕ). earlier x c.least.result) (sym c.server_due.ensures) ∙ sym c.earlier.ensures in
    subst P c.self.view_is (subst Q same least)
