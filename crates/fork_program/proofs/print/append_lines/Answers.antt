use Rattle.fork_program.proofs.Common.{common_steps, arith}
use Rattle.fork_program.proofs.Printing.{ends_unfinished, ends_listed, listed_failed, listed_finished, listed_alone, right_alone}
use Rattle.fork_program.proofs.print.append_lines.Goals as goal

pub returns-in-Err-NotFinished : goal.returns-in-Err-NotFinished
returns-in-Err-NotFinished g c = grind (arith, common_steps, ends_unfinished)

pub returns-in-Ok : goal.returns-in-Ok
returns-in-Ok g c =
    let failed = listed_failed _ _ c.in-Ok.ensures.succeeded in
    let done = listed_finished _ _ _ c.in-Ok.ensures.not_finished failed in
    let listed = listed_alone c.args.context.now.table _ _ c.deref.result.now c.new-listed.ensures.items c.in-Ok.ensures.appended c.deref.ensures.value in
    let right = right_alone _ _ c.deref.result.now c.new-listed.ensures.items c.in-Ok.ensures.right c.deref.ensures.value in
    ends_listed c.append_listed.result c.args.context.now.table c.deref.result.now _ _ failed done listed right c.append_listed.ensures
