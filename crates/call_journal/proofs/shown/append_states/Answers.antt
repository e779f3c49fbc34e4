use Rattle.call_journal.specs.Shown.{row_text}
use Rattle.call_journal.proofs.Lines.{grown}
use Rattle.call_journal.proofs.shown.append_states.Goals as goal

pub loop-n-preserved : goal.loop-n-preserved
loop-n-preserved g c =
    grown (row_text c.args.context.now.table.rows) c.loop-n.n c.args.out.now.items c.loop-n.out.items c.append_row.new.out.items c.loop-n.invariant c.in_ok-append_row.ensures
