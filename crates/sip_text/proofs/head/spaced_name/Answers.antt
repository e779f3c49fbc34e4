use Rattle.sip_text.proofs.Common.{◌∙◌, ap, is_token, sym}
use Rattle.sip_text.proofs.head.spaced_name.Goals as goal

pub returns-clause-found : goal.returns-clause-found
returns-clause-found c = record {
  front = c.cut_near.result.0.now;
  cuts = sym (rw c.in_ok-raw.was at c.cut_near.ensures.value);
  whole = rw c.in_ok-raw.was at c.cut_near.ensures.whole;
  trimmed = c.trim_end-name.ensures;
  token = ap is_token (sym c.trim_end-name.ensures) ∙ sym c.is_token.ensures ∙ c.if-not-is_token.false;
}
