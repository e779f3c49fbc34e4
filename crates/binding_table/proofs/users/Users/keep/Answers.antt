use Rattle.binding_table.proofs.Named.{others_by_bindings}
use Rattle.binding_table.proofs.users.Users.keep.Goals as goal

pub returns-in-Ok-clause-others : goal.returns-in-Ok-clause-others
returns-in-Ok-clause-others g c = others_by_bindings c.args.self.now c.insert.new.self c.args.name.items c.in-Ok.ensures.updates.3
