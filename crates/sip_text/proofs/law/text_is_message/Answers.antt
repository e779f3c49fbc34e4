use Rattle.sip_text.proofs.Spelled.{text_good}
use Rattle.sip_text.proofs.law.text_is_message.Goals as goal

pub returns : goal.returns
returns c = text_good
