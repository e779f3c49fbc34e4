use Rattle.std.proofs.Common.{◌≡◌, ◌≤◌, ◌∙◌, sym, subst, ap, List, length, Err}
use Rattle.fork_model.specs.Table.{most_targets}
use Rattle.fork_model.specs.History.{Target}
use Rattle.fork_context.specs.Refusals.{HasTwice}
use Rattle.fork_engine.proofs.opened_book.opened_run.Goals as goal

pub returns-in-Ok-opened-clause-twice : goal.returns-in-Ok-opened-clause-twice
returns-in-Ok-opened-clause-twice g c =
    let T : c.in-Ok.given.targets.items ≡ c.args.targets.items = c.in-Ok.ensures.targets ∙ c.deref.ensures.value in
    let P : List Target → Type 0 = λ ts. (length ts ≤ most_targets) × HasTwice ts in
    (λ h. absurd h, λ e. absurd (let h = c.in-Ok-opened.ensures.twice.1 (subst P (sym T) e) in cc))

pub returns-in-Err-clause-twice : goal.returns-in-Err-clause-twice
returns-in-Err-clause-twice g c =
    let T : c.in-Ok.given.targets.items ≡ c.args.targets.items = c.in-Ok.ensures.targets ∙ c.deref.ensures.value in
    let P : List Target → Type 0 = λ ts. (length ts ≤ most_targets) × HasTwice ts in (
      λ h. subst P T (c.in-Err.ensures.twice.0 (ap (λ f. Err f) (c.fault_of.ensures.twice.0 h))),
      λ e. c.fault_of.ensures.twice.1 (let h = c.in-Err.ensures.twice.1 (subst P (sym T) e) in cc),
    )
