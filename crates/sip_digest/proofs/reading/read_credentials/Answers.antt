use Rattle.sip_digest.proofs.Readings.{gives_found, gives_only}
use Rattle.sip_digest.proofs.reading.read_credentials.Goals as goal

pub returns-clause-found : goal.returns-clause-found
returns-clause-found g c = gives_found c.args.value.now c.args.realm.now c.read_all.result c.read_all.ensures

pub returns-clause-only : goal.returns-clause-only
returns-clause-only g c = gives_only c.args.value.now c.args.realm.now c.read_all.result c.read_all.ensures
