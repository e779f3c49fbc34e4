use Rattle.sip_via.proofs.Common.{arith}
use Rattle.sip_via.proofs.laws.Places.{place-later}
use Rattle.sip_via.proofs.edits.header_index.Goals as goal

pub loop-i-preserved : goal.loop-i-preserved
loop-i-preserved c = grind (arith, place-later)
