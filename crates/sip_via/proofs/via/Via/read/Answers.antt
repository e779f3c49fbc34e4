use Rattle.sip_via.proofs.ViaReads.{is_found, only_read}
use Rattle.sip_via.proofs.via.Via.read.Goals as goal

pub returns-clause-found : goal.returns-clause-found
returns-clause-found g c = is_found c.args.value.now c.read_value.result c.read_value.ensures.exact

pub returns-clause-only : goal.returns-clause-only
returns-clause-only g c = only_read c.args.value.now c.read_value.result c.read_value.ensures.exact
