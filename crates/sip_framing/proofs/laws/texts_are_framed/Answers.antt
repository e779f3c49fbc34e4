use Rattle.sip_framing.proofs.Texts.{texts_framed}
use Rattle.sip_framing.proofs.laws.texts_are_framed.Goals as goal

pub returns : goal.returns
returns c = texts_framed
