use Rattle.service_config.proofs.Texts.{gives_fault, gives_found, gives_only}
use Rattle.service_config.proofs.settings.ServiceSettings.read.Goals as goal

pub returns-clause-found : goal.returns-clause-found
returns-clause-found g c = gives_found c.args.number c.args.streams c.args.text.now c.read_all.result c.read_all.ensures

pub returns-clause-only : goal.returns-clause-only
returns-clause-only g c = gives_only c.args.number c.args.streams c.args.text.now c.read_all.result c.read_all.ensures

pub returns-clause-fault : goal.returns-clause-fault
returns-clause-fault g c = gives_fault c.args.number c.args.streams c.args.text.now c.read_all.result c.read_all.ensures
