use Rattle.std.proofs.Common.{◌≡◌, ◌∙◌, ap, true}
use Rattle.std.specs.List.{list_all, flat_map}
use Rattle.sip_text.specs.Message.{is_header}
use Rattle.call_branch.specs.inner.Reasons.{reason_in}
use Rattle.call_branch.proofs.KeptReasons.{reasons_are, reasons_pass}
use Rattle.call_branch.proofs.reasons.ReasonLines.of.Goals as goal

pub invariant_of-result : goal.invariant_of-result
invariant_of-result g c =
    ap (list_all is_header) (c.in_ok-lines.ensures ∙ ap (flat_map reason_in) c.headers.ensures ∙ reasons_are c.args.message.now)
    ∙ reasons_pass c.args.message.now c.is_message.ensures.head.headers

pub returns : goal.returns
returns g c = c.in_ok-lines.ensures ∙ ap (flat_map reason_in) c.headers.ensures ∙ reasons_are c.args.message.now
