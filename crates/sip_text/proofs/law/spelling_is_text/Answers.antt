use Rattle.sip_text.proofs.Spelled.{spelled}
use Rattle.sip_text.proofs.law.spelling_is_text.Goals as goal

pub returns : goal.returns
returns c = spelled
