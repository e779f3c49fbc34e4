use Rattle.fork_context.proofs.Common.{arith, ◌<◌, length, common_steps}
use Rattle.fork_context.proofs.Numbers.{length_passing}
use Rattle.fork_context.proofs.CancelledRows.{rows_next, numbers_next}
use Rattle.fork_context.proofs.ClosingRows.{none_gone, cancelled_all}
use Rattle.fork_context.proofs.fork.Fork.cancel_rung.Goals as goal

pub loop-n-init : goal.loop-n-init
loop-n-init g c = grind (arith, common_steps, none_gone)

pub push_if-requires : goal.push_if-requires
push_if-requires g c = grind (arith, common_steps, length_passing)

pub loop-n-preserved : goal.loop-n-preserved
loop-n-preserved g c =
    let t = c.args.self.now in
    let lt : c.loop-n.n < length t.rows = omega arith in
    grind (arith, common_steps, rows_next, numbers_next)

pub returns-clause-rows : goal.returns-clause-rows
returns-clause-rows g c = grind (arith, common_steps, cancelled_all)
