use Rattle.fork_call.proofs.Common.{◌≡◌, ◌∙◌, ap, refl, sym, subst, true, Option, Some, None, List, ℕ, ◌==◌, earlier, least_of, moment_at}
use Rattle.std.proofs.Common.{eq-eqb}
use Rattle.std.specs.Option.{option_eq}
use Rattle.fork_call.proofs.Leasts.{first_stays, set_is_first}
use Rattle.fork_call.proofs.schedule.first_after.Goals as goal

same : (a : Option ℕ) → option_eq (λ (x y : ℕ). x == y) a a ≡ true
same None = refl
same (Some at) = eq-eqb at at refl

pub returns-then-leads : goal.returns-then-leads
returns-then-leads c = λ old is least there set.
    let P : List (Option ℕ) → Type 0 = λ ms. moment_at ms c.args.n ≡ least_of ms in
    let early : earlier c.args.moment (least_of old) ≡ c.args.moment = ap (earlier c.args.moment) (sym least) ∙ c.leads.ensures.leads c.if-leads.true in
    subst P (sym set) (set_is_first old c.args.n c.args.before c.args.moment there early)

pub returns-else-eq : goal.returns-else-eq
returns-else-eq c = λ old is least there set.
    let P : List (Option ℕ) → Type 0 = λ ms. moment_at ms c.args.first ≡ least_of ms in
    let apart : c.args.before ≡ c.args.least → ⊥ = λ e. absurd (let t = same c.args.before in let u = ap (λ (x : Option ℕ). option_eq (λ (x y : ℕ). x == y) c.args.before x) e in cc) in
    let late : earlier (least_of old) c.args.moment ≡ least_of old =
    ap (λ (x : Option ℕ). earlier x c.args.moment) (sym least) ∙ c.leads.ensures.follows c.if-leads.false ∙ least in
    subst P (sym set) (first_stays old c.args.n c.args.first c.args.before c.args.moment there is (λ e. apart (e ∙ sym least)) late)
