use Rattle.std.proofs.Common.{◌∙◌, Bool, Some, None, ap, sym, ◌&&◌}
use Rattle.sip_text.specs.Fields.{message_cseq}
use Rattle.call_model.specs.Call.{is_sent}
use Rattle.call_model.specs.OpenedRequest.{method_of}
use Rattle.call_state.specs.Kinds.{is_to_method}
use Rattle.call_state.proofs.Matched.{at_home, no_transaction, none_at_all, none_home}
use Rattle.call_state.proofs.matching.match_response.Goals as goal

pub returns-in_err-n-clause-none : goal.returns-in_err-n-clause-none
returns-in_err-n-clause-none g c =
    let call = c.args.state.now in
    let m = c.args.response.now in
    rw c.from_residual.ensures
    (none_at_all call m c.requires.response
    (none_home call m
    (at_home call m c.opened.result.now c.branch-call.result c.args.branch None c.opened.ensures c.branch-call.ensures c.are_branches.ensures c.requires.named
    c.in_err-n.ensures.only)))

pub returns-clause-none : goal.returns-clause-none
returns-clause-none g c =
    let call = c.args.state.now in
    let m = c.args.response.now in
    let second = ap (λ (b : Bool). is_to_method (method_of call.opened.request.start) (message_cseq m.headers) && b && is_sent call c.in_ok-n.n)
    (sym c.has_second_via-second.ensures) in
    none_at_all call m c.requires.response
    (no_transaction call m c.in_ok-n.n
    (at_home call m c.opened.result.now c.branch-call.result c.args.branch (Some c.in_ok-n.n) c.opened.ensures c.branch-call.ensures c.are_branches.ensures
    c.requires.named c.in_ok-n.ensures.only)
    (second ∙ sym (c.is_for_client.ensures (message_cseq m.headers) c.cseq_method-to.ensures) ∙ c.if-is_for_client.false)
    (sym (c.is_for_cancel.ensures (message_cseq m.headers) c.cseq_method-to.ensures) ∙ c.if-is_for_cancel.false))
