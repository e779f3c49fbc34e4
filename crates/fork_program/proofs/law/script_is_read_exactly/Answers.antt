use Rattle.fork_program.proofs.SpelledScripts.{read_exactly, refused_by_first}
use Rattle.fork_program.proofs.law.script_is_read_exactly.Goals as goal

pub returns-clause-exactly : goal.returns-clause-exactly
returns-clause-exactly c = read_exactly

pub returns-clause-refused : goal.returns-clause-refused
returns-clause-refused c = refused_by_first
