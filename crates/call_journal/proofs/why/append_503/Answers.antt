use Rattle.std.proofs.lemmas.Result.{on_ok_weaker}
use Rattle.call_journal.proofs.Answered.{replaced}
use Rattle.call_journal.proofs.why.append_503.Goals as goal

pub returns : goal.returns
returns g c = on_ok_weaker c.append_answer.result
    (replaced c.args.context.now.table c.args.n c.args.out.now.items c.append.new.text.items c.append_answer.new.out.items c.in_ok-append.ensures)
    c.append_answer.ensures
