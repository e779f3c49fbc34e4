use Rattle.sip_via.proofs.Common.{◌∙◌}
use Rattle.sip_via.proofs.SentLaws.{parts_known}
use Rattle.sip_via.proofs.cut.cut_value.Goals as goal

pub returns-in-Some : goal.returns-in-Some
returns-in-Some c = c.cut_sent.ensures ∙ parts_known c.args.text.now c.in-Some.rest.now c.in-Some.ensures.cases.0 c.in-Some.ensures.cases.1
