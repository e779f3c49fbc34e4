use Rattle.sip_via.proofs.laws.PlainVia.{own-read}
use Rattle.sip_builders.proofs.via_laws.own_via_is_read.Goals as goal

pub returns : goal.returns
returns c = own-read
