use Rattle.sip_via.proofs.Common.{◌≡◌, Err, Ok, refl, Result}
use Rattle.std.specs.Prelude.{IsOk}
use Rattle.sip_via.specs.declared.own.ViaFault.{ViaFault}
use Rattle.sip_via.specs.declared.own.ViaFault.TheVariants.{NoMemory}
use Rattle.sip_via.specs.Received.{marked}
use Rattle.sip_via.specs.ViaFaults.{refusal}
use Rattle.sip_via.proofs.laws.MarkedMessage.{readable}
use Rattle.sip_via.proofs.received.add_received.Goals as goal

-- what can be marked is refused for want of memory alone
kept : {Y : Type 0} (r : Result Y ViaFault) → IsOk r → NoMemory ≡ refusal r
kept (Ok y) is = refl
kept (Err fault) is = absurd cc

pub returns-clause-refused : goal.returns-clause-refused
returns-clause-refused g c = kept (marked c.args.message c.args.source) (readable c.args.message c.args.source c.in-Err.ensures.refused)
