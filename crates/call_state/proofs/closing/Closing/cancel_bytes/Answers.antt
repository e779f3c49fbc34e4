use Rattle.call_state.proofs.Common.{◌≡◌, ◌∙◌, ◌∷◌, [], ℕ, List, subst, sym, IfOk, spelling, cancel_to, closing_of}
use Rattle.call_model.specs.Closing.{reason_line, reasons_by}
use Rattle.call_state.specs.declared.closing.Closing.{Closing}
use Rattle.call_state.proofs.closing.Closing.cancel_bytes.Goals as goal

pub returns-in-BySuccess : goal.returns-in-BySuccess
returns-in-BySuccess g c =
    let P : Closing _ → Type 0 = λ k. IfOk c.cancel_for.result (λ bytes. bytes.items ≡ spelling (cancel_to c.args.opened.now c.args.destination.now c.args.n (reasons_by (closing_of k)))) in
    subst P (sym c.in-BySuccess.is) c.cancel_for.ensures

pub returns-in_ok-value-in-ByGlobalFailure : goal.returns-in_ok-value-in-ByGlobalFailure
returns-in_ok-value-in-ByGlobalFailure g c =
    let P : Closing _ → Type 0 =
    λ k. IfOk c.cancel_for-in-ByGlobalFailure.result (λ bytes. bytes.items ≡ spelling (cancel_to c.args.opened.now c.args.destination.now c.args.n (reasons_by (closing_of k)))) in
    let V : List ℕ → Type 0 =
    λ v. IfOk c.cancel_for-in-ByGlobalFailure.result (λ bytes. bytes.items ≡ spelling (cancel_to c.args.opened.now c.args.destination.now c.args.n (reason_line v ∷ []))) in
    subst P (sym c.in-ByGlobalFailure.is) (subst V (c.deref.ensures.value ∙ c.in_ok-value-in-ByGlobalFailure.ensures.value) c.cancel_for-in-ByGlobalFailure.ensures)
