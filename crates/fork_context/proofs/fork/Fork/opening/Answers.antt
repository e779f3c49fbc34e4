use Rattle.fork_context.proofs.Common.{kind_of}
use Rattle.fork_context.proofs.OpeningFork.{opened}
use Rattle.fork_context.proofs.fork.Fork.opening.Goals as goal

pub returns-clause-value : goal.returns-clause-value
returns-clause-value g c =
    opened (kind_of c.args.kind) c.args.rules c.args.targets.now c.in_ok-fork.fork c.start_ready.new.self c.start_ready.result c.in_ok-fork.ensures.value c.start_ready.ensures.none c.start_ready.ensures.some

pub returns-clause-range : goal.returns-clause-range
returns-clause-range g c = c.in_ok-fork.ensures.range
