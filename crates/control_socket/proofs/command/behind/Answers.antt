use Rattle.control_socket.proofs.Fronts.{found_behind, none_behind}
use Rattle.control_socket.proofs.command.behind.Goals as goal

pub returns-clause-some : goal.returns-clause-some
returns-clause-some c = found_behind c.args.front.now c.args.line.now c.strip_prefix.result c.strip_prefix.ensures.cases

pub returns-clause-none : goal.returns-clause-none
returns-clause-none c = none_behind c.args.front.now c.args.line.now c.strip_prefix.result c.strip_prefix.ensures.cases
