use Rattle.sip_uri.proofs.Common.{◌∙◌, sym, common_steps, arith}
use Rattle.sip_uri.proofs.Checked.{not_sip, read_by_parts}
use Rattle.sip_uri.proofs.text.cut_uri.Goals as goal

pub returns-then-not-begins_with_sip-clause-refused : goal.returns-then-not-begins_with_sip-clause-refused
returns-then-not-begins_with_sip-clause-refused c = not_sip c.args.text.now (sym c.begins_with_sip.ensures ∙ c.if-not-begins_with_sip.true)

pub returns-in-Some-clause-refused : goal.returns-in-Some-clause-refused
returns-in-Some-clause-refused c = grind (arith, common_steps, read_by_parts)

pub returns-clause-found : goal.returns-clause-found
returns-clause-found c = grind (arith, common_steps, read_by_parts)
