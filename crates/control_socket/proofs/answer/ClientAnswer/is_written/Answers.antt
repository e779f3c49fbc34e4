use Rattle.control_socket.proofs.Parts.{all_is_written}
use Rattle.control_socket.proofs.answer.ClientAnswer.is_written.Goals as goal

pub returns : goal.returns
returns c = all_is_written c.args.self.now c.next.result.now c.is_empty.result c.next.ensures.front c.next.ensures.last c.is_empty.ensures
