use Rattle.sip_text.proofs.NamedValues.{header_values}
use Rattle.sip_text.proofs.law.header_values_are_values.Goals as goal

pub returns : goal.returns
returns c = header_values
