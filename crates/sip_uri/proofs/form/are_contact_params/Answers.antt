use Rattle.sip_uri.proofs.Common.{◌∙◌, sym, option_copied, arith}
use Rattle.sip_uri.proofs.Contacts.{bad_first, good_first}
use Rattle.sip_uri.proofs.form.are_contact_params.Goals as goal

pub returns-then-not-is_contact_param : goal.returns-then-not-is_contact_param
returns-then-not-is_contact_param c =
    let h = c.loop-rest.invariant in
    bad_first c.in-Some.text.now c.cut_param.result.0.now (option_copied c.cut_param.result.1) _ c.cut_param.ensures.value (sym c.is_contact_param.ensures ∙ c.if-not-is_contact_param.true) (rw c.in-Some.is at h)

pub loop-rest-preserved : goal.loop-rest-preserved
loop-rest-preserved c = grind (arith, good_first)
