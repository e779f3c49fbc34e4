use Rattle.std.proofs.Common.{◌∙◌}
use Rattle.std.proofs.lemmas.Result.{on_ok_weaker}
use Rattle.call_journal.proofs.Answered.{answered}
use Rattle.call_journal.proofs.why.append_answer.Goals as goal

pub returns : goal.returns
returns g c = on_ok_weaker c.append_reason.result
    (answered c.args.context.now.table c.args.n c.args.out.now.items c.append_source.new.out.items c.append.new.text.items c.append_reason.new.out.items
    c.rules.result c.deref.result.now c.status_at.result
    c.in_ok-append_source.ensures c.in_ok-append.ensures c.rules.ensures (c.deref.ensures.value ∙ c.in_ok-statuses.ensures) c.status_at.ensures)
    c.append_reason.ensures
