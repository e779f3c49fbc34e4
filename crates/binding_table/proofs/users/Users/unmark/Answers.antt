use Rattle.binding_table.proofs.Named.{others_by_changing}
use Rattle.binding_table.proofs.users.Users.unmark.Goals as goal

pub returns-clause-others : goal.returns-clause-others
returns-clause-others g c = others_by_changing c.args.self.now c.remove.new.self c.args.name.now c.remove.ensures.updates.3
