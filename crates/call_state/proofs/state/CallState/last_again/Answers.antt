use Rattle.call_state.proofs.Common.{◌≡◌, ℕ, List, subst, IfOk, Call, seen}
use Rattle.call_state.specs.inner.CallStateInside.{answer_to}
use Rattle.call_state.proofs.state.CallState.last_again.Goals as goal

pub returns : goal.returns
returns g c =
    let L : List ℕ → Type 0 = λ l. IfOk c.answer_again.result (λ d. seen d ≡ answer_to c.self.inside.opened l) in
    let P : Call → Type 0 = λ x. IfOk c.answer_again.result (λ d. seen d ≡ answer_to x.opened x.server.last) in
    subst P c.self.view_is (subst L c.deref.ensures.value c.answer_again.ensures)
