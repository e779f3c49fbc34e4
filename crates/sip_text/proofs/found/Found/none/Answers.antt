use Rattle.sip_text.proofs.NeededFields.{finds_nothing}
use Rattle.sip_text.proofs.found.Found.none.Goals as goal

pub returns : goal.returns
returns c = finds_nothing
