use Rattle.fork_context.proofs.TakenKeys.{known_of_rows, known_of_extras}
use Rattle.fork_context.proofs.targets.Targets.has.Goals as goal

pub returns-then-has_key : goal.returns-then-has_key
returns-then-has_key g c =
    known_of_rows c.self.inside.fork.now.rows c.self.inside.fresh c.args.key.now c.args.self.now _ c.self.view_is c.has_key.ensures c.if-has_key.true

pub returns-else-has_key : goal.returns-else-has_key
returns-else-has_key g c =
    known_of_extras c.self.inside.fork.now.rows c.self.inside.fresh c.args.key.now c.args.self.now _ _ c.self.view_is c.has_key.ensures c.if-has_key.false c.has_key-else-has_key.ensures
