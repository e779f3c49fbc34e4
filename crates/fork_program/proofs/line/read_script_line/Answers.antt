use Rattle.fork_program.specs.inner.LineView.{line_of}
use Rattle.fork_program.proofs.laws.SpelledLines.{reads_only, reads_found}
use Rattle.fork_program.proofs.line.read_script_line.Goals as goal

pub returns-clause-found : goal.returns-clause-found
returns-clause-found c = reads_found c.line_at.result line_of c.args.line.now c.line_at.ensures

pub returns-clause-only : goal.returns-clause-only
returns-clause-only c = reads_only c.line_at.result line_of c.args.line.now c.line_at.ensures
