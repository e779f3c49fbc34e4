use Rattle.call_journal.specs.Notes.{line_of, own_notes}
use Rattle.call_journal.proofs.Lines.{grown}
use Rattle.call_journal.proofs.notes.append_targets.Goals as goal

pub loop-n-preserved : goal.loop-n-preserved
loop-n-preserved g c =
    grown (λ n. line_of n (own_notes c.args.notes.now n)) c.loop-n.n c.args.out.now.items c.loop-n.out.items c.append_target.new.out.items c.loop-n.invariant c.in_ok-append_target.ensures
