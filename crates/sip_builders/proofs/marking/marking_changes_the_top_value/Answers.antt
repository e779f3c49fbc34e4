use Rattle.sip_via.proofs.laws.MarkedValues.{values-of-marked}
use Rattle.sip_builders.proofs.marking.marking_changes_the_top_value.Goals as goal

pub returns : goal.returns
returns c = values-of-marked
