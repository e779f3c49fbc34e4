use Rattle.std.proofs.Common.{◌∙◌, sym}
use Rattle.fork_call.proofs.Leasts.{first_now, first_on}
use Rattle.fork_call.proofs.schedule.first_of.Goals as goal
use Rattle.fork_call.proofs.schedule.first_of.Goals.{then-comes_before, else-comes_before}

pub loop-i-preserved : goal.loop-i-preserved
loop-i-preserved c = elim c.if-comes_before.branch [
  | then-comes_before w ↦
      let now = first_now c.args.moments.now c.loop-i.i c.loop-i.least c.loop-i-test.true c.loop-i.invariant.least (sym c.comes_before.ensures ∙ w.if-comes_before.true) in
      rw (w.first-is, w.least-is) record { first = now.first; least = now.least }
  | else-comes_before w ↦
      let on = first_on c.args.moments.now c.loop-i.i c.loop-i.first c.loop-i.least c.loop-i-test.true c.loop-i.invariant.first c.loop-i.invariant.least (sym c.comes_before.ensures ∙ w.if-comes_before.false) in
      rw (w.first-is, w.least-is) record { first = on.first; least = on.least }
]
