use Rattle.sip_text.proofs.NamedValues.{trimmed_part}
use Rattle.sip_text.proofs.law.trimmed_part_is_a_value.Goals as goal

pub returns : goal.returns
returns c = trimmed_part
