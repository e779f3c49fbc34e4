use Rattle.sip_uri.proofs.Common.{◌∙◌, sym, ap, option_copied, q_value_if_any, rules}
use Rattle.sip_uri.proofs.Contacts.{q_first, q_later}
use Rattle.sip_uri.proofs.form.q_of.Goals as goal

pub returns-then-is_q : goal.returns-then-is_q
returns-then-is_q c =
    let h = c.loop-rest.invariant in
    c.q_value_if_any.ensures ∙ ap q_value_if_any c.param_value.ensures ∙ q_first c.in-Some.text.now c.cut_param.result.0.now (option_copied c.cut_param.result.1) _ c.cut_param.ensures.value (sym c.is_q.ensures ∙ c.if-is_q.true) (rw c.in-Some.is at h)

pub loop-rest-preserved : goal.loop-rest-preserved
loop-rest-preserved c = search (rules, q_later)
