use Rattle.control_socket.proofs.Numbers.{no_number}
use Rattle.control_socket.proofs.command.number_behind.Goals as goal

pub returns-clause-none : goal.returns-clause-none
returns-clause-none c =
    no_number c.args.front.now c.args.line.now c.in_ok-behind.field-0.now c.args.limit c.read_plain_number.result c.in_ok-behind.ensures.some c.read_plain_number.ensures
