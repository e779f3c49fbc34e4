use Rattle.sip_via.proofs.Common.{ℕ, eqb, List, length, ap, ◌∙◌}
use Rattle.sip_via.proofs.TrimmedLen.{trimmed-len}
use Rattle.sip_via.proofs.cut.is_trimmed.Goals as goal

pub returns : goal.returns
returns c = ap (λ (x : List ℕ). eqb (length x) (length c.args.text.now)) c.trim.ensures ∙ trimmed-len c.args.text.now
