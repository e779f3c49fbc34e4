use Rattle.sip_via.proofs.laws.MarkedValues.{says-the-same}
use Rattle.sip_builders.proofs.marking.marked_value_is_read.Goals as goal

pub returns : goal.returns
returns c = λ m n source is e. (says-the-same m n source is e).reads
