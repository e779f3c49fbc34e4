use Rattle.proxy_dispatch.proofs.Common.{◌≡◌, ◌∙◌, List, Some, ap, subst, sym, Datagram, seen_sent}
use Rattle.std.proofs.Common.{true}
use Rattle.std.specs.List.{list_all}
use Rattle.sip_text.specs.Message.{is_header}
use Rattle.sip_build.specs.declared.responses.OwnStatus.{OwnStatus}
use Rattle.sip_text.specs.Seen.{view_lines}
use Rattle.sip_text.specs.Text.{HeaderText}
use Rattle.proxy_dispatch.specs.Sent.{answer_to}
use Rattle.proxy_dispatch.proofs.Rejecting.{prepared_answer, with_source_answer}
use Rattle.proxy_dispatch.proofs.answers.marked_answer.Goals as goal

pub answer_to-requires : goal.answer_to-requires
answer_to-requires g c =
    subst (λ (ls : List HeaderText). list_all is_header ls ≡ true) (sym (ap view_lines c.deref.ensures.value ∙ c.in_ok-lines.ensures.exact)) c.in_ok-lines.ensures.good

pub returns-clause-marked : goal.returns-clause-marked
returns-clause-marked g c = λ m source is hop.
    let status = c.args.answer.now.status in
    let lines = c.args.answer.now.lines in
    ap seen_sent c.sends.ensures.sends
    ∙ ap Some
    (c.in_ok-datagram.ensures
    ∙ ap (λ (s : OwnStatus). answer_to c.args.request.now s (view_lines c.deref.result.now) c.args.to) c.status.ensures
    ∙ ap (λ (ls : List HeaderText). answer_to c.args.request.now status ls c.args.to) (ap view_lines c.deref.ensures.value ∙ c.in_ok-lines.ensures.exact)
    ∙ ap (answer_to c.args.request.now status lines) hop
    ∙ with_source_answer c.stripping_keeps_answers.ensures c.stripping_keeps_the_rest.ensures.others source status lines m c.args.request.now is)

pub returns-clause-prepared : goal.returns-clause-prepared
returns-clause-prepared g c = λ setup m source is hop.
    let status = c.args.answer.now.status in
    let lines = c.args.answer.now.lines in
    ap seen_sent c.sends.ensures.sends
    ∙ ap Some
    (c.in_ok-datagram.ensures
    ∙ ap (λ (s : OwnStatus). answer_to c.args.request.now s (view_lines c.deref.result.now) c.args.to) c.status.ensures
    ∙ ap (λ (ls : List HeaderText). answer_to c.args.request.now status ls c.args.to) (ap view_lines c.deref.ensures.value ∙ c.in_ok-lines.ensures.exact)
    ∙ ap (answer_to c.args.request.now status lines) hop
    ∙ prepared_answer c.stripping_keeps_answers.ensures c.stripping_keeps_the_rest.ensures.others source status lines setup m c.args.request.now is)
