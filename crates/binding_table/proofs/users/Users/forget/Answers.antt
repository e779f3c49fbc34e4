use Rattle.binding_table.proofs.Named.{others_by_bindings}
use Rattle.binding_table.proofs.users.Users.forget.Goals as goal

pub returns-clause-others : goal.returns-clause-others
returns-clause-others g c = others_by_bindings c.args.self.now c.remove.new.self c.args.name.now c.remove.ensures.updates.3
