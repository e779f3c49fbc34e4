use Rattle.fork_program.proofs.SpelledOnce.{spelled_once, read_alike}
use Rattle.fork_program.proofs.law.texts_of_one_script_say_the_same.Goals as goal

pub returns-clause-alike : goal.returns-clause-alike
returns-clause-alike c = read_alike

pub returns-clause-once : goal.returns-clause-once
returns-clause-once c = spelled_once
