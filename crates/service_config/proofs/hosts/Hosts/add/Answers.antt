use Rattle.service_config.proofs.HostSets.{number_added}
use Rattle.service_config.proofs.hosts.Hosts.add.Goals as goal

pub returns-in-Ok : goal.returns-in-Ok
returns-in-Ok g c = number_added c.args.self.now.numbers c.insert.new.self c.args.number c.in-Ok.ensures.updates
