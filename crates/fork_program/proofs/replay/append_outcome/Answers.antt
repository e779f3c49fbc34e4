use Rattle.fork_program.proofs.Printing.{adds_reply}
use Rattle.fork_program.proofs.replay.append_outcome.Goals as goal

pub returns-in-Ok : goal.returns-in-Ok
returns-in-Ok g c =
    adds_reply c.append_reply.result c.args.context.now _ _ c.in-Ok.reply _ _ c.in-Ok.ensures.full.1 c.in-Ok.ensures.reply c.in-Ok.ensures.next c.append_reply.ensures.appended
