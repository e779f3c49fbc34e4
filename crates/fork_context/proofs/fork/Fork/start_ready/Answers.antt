use Rattle.fork_context.proofs.Common.{kind_of, arith}
use Rattle.fork_context.proofs.ForkStart.{started_fork, started_none, started_some}
use Rattle.fork_context.proofs.fork.Fork.start_ready.Goals as goal

pub invariant_of-self : goal.invariant_of-self
invariant_of-self g c =
    started_fork c.start_ready.result c.self.inside.tree c.start_ready.new.self c.self.inside.extras c.self.inside.succeeded c.self.invariant c.start_ready.ensures.none c.start_ready.ensures.some

pub returns-clause-none : goal.returns-clause-none
returns-clause-none g c =
    started_none c.start_ready.result c.self.inside.tree c.start_ready.new.self c.self.inside.extras c.self.inside.succeeded (kind_of c.self.inside.kind) c.self.inside.closed c.args.self.now c.self.invariant c.self.view_is c.start_ready.ensures.none

pub returns-clause-some : goal.returns-clause-some
returns-clause-some g c =
    started_some c.start_ready.result c.self.inside.tree c.start_ready.new.self c.self.inside.extras c.self.inside.succeeded (kind_of c.self.inside.kind) c.self.inside.closed c.args.self.now c.self.invariant c.self.view_is c.start_ready.ensures.some

pub returns-clause-range : goal.returns-clause-range
returns-clause-range g c = grind arith
