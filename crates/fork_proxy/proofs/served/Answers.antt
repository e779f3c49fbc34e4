use Rattle.std.proofs.Common.{List, ℕ, refl, ◌≡◌, subst, sym, ap, ◌∙◌}
use Rattle.serve_command.specs.Faults.{Spells, IsFaultOf}
use Rattle.fork_proxy.specs.Ending.{IsServeFailure, told}
use Rattle.fork_proxy.proofs.FaultsTold.{is_told}
use Rattle.fork_proxy.proofs.served.Goals as goal

pub returns-in-Ok-serve-clause-served : goal.returns-in-Ok-serve-clause-served
returns-in-Ok-serve-clause-served g c =
    (refl, c.in-Ok.text.items, c.in-Ok.ensures.whole, subst Spells c.deref.ensures.value c.in-Ok-serve.ensures.served)

pub returns-in-Ok-clause-failure : goal.returns-in-Ok-clause-failure
returns-in-Ok-clause-failure g c =
    let text = c.in-Ok.text.items in
    let why = c.in-Err-serve.fault in
    let of_text : IsFaultOf text why = subst (λ (t : List ℕ). IsFaultOf t why) c.deref.ensures.value c.in-Err-serve.ensures.fault in
    let is : c.told.result ≡ told text why = c.told.ensures ∙ ap (λ (t : List ℕ). told t why) c.deref-in-Err-serve.ensures.value in
    subst (IsServeFailure _) (sym is) (is_told _ text why c.in-Ok.ensures.whole of_text)
