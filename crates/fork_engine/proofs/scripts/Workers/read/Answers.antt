use Rattle.fork_engine.proofs.SpelledWorkers.{gives_found, gives_only, gives_fault}
use Rattle.fork_engine.proofs.scripts.Workers.read.Goals as goal

pub returns-clause-found : goal.returns-clause-found
returns-clause-found g c = gives_found c.args.text.now c.read_lines.result c.read_lines.ensures

pub returns-clause-only : goal.returns-clause-only
returns-clause-only g c = gives_only c.args.text.now c.read_lines.result c.read_lines.ensures

pub returns-clause-fault : goal.returns-clause-fault
returns-clause-fault g c = gives_fault c.args.text.now c.read_lines.result c.read_lines.ensures
