use Rattle.call_state.proofs.Common.{◌≡◌, ◌∙◌, ◌&&◌, List, [], subst, sym, true, false, is_some, IfOk, spelling, cancel_to, Call, nth_branch}
use Rattle.sip_text.specs.Text.{HeaderText}
use Rattle.call_model.specs.Closing.{reasons_by}
use Rattle.call_model.specs.Due.{timer_c_at}
use Rattle.call_state.proofs.Cancels.{reasons_said, reasons_unsaid}
use Rattle.call_state.proofs.state.CallState.cancel_bytes.Goals as goal

pub returns-then-says_why : goal.returns-then-says_why
returns-then-says_why g c =
    let call = c.args.self.now in
    let P : Call → Type 0 = λ x. IfOk c.cancel_bytes.result (λ bytes. bytes.items ≡ spelling (cancel_to x.opened c.args.destination.now c.args.n (reasons_by x.closing))) in
    let Q : List HeaderText → Type 0 = λ hs. IfOk c.cancel_bytes.result (λ bytes. bytes.items ≡ spelling (cancel_to call.opened c.args.destination.now c.args.n hs)) in
    let says : (call.opened.reasons && is_some (timer_c_at (nth_branch call c.args.n))) ≡ true = sym c.says_why.ensures ∙ c.if-says_why.true in
    subst Q (sym (reasons_said call c.args.n says)) (subst P c.self.view_is c.cancel_bytes.ensures)

pub returns-else-says_why : goal.returns-else-says_why
returns-else-says_why g c =
    let call = c.args.self.now in
    let P : Call → Type 0 = λ x. IfOk c.cancel_bytes-else-says_why.result (λ bytes. bytes.items ≡ spelling (cancel_to x.opened c.args.destination.now c.args.n [])) in
    let Q : List HeaderText → Type 0 = λ hs. IfOk c.cancel_bytes-else-says_why.result (λ bytes. bytes.items ≡ spelling (cancel_to call.opened c.args.destination.now c.args.n hs)) in
    let says : (call.opened.reasons && is_some (timer_c_at (nth_branch call c.args.n))) ≡ false = sym c.says_why.ensures ∙ c.if-says_why.false in
    subst Q (sym (reasons_unsaid call c.args.n says)) (subst P c.self.view_is c.cancel_bytes-else-says_why.ensures)
