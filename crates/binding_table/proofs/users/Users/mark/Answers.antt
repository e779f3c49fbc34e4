use Rattle.binding_table.proofs.Named.{others_by_changing, others_by_same_changing}
use Rattle.binding_table.proofs.users.Users.mark.Goals.{in-Ok, in-Err}
use Rattle.binding_table.proofs.users.Users.mark.Goals as goal

pub returns-clause-others : goal.returns-clause-others
returns-clause-others g c = elim c.match-insert.branch [
  | in-Ok w ↦ others_by_changing c.args.self.now c.insert.new.self c.args.name.items w.in-Ok.ensures.updates.3
  | in-Err w ↦ others_by_same_changing c.args.self.now c.insert.new.self c.args.name.items w.in-Err.ensures.err
]
