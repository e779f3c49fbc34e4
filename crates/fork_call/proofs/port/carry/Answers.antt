use Rattle.fork_call.proofs.Common.{◌∙◌, Bool, sym, ap, ◌&&◌, is_due}
use Rattle.fork_call.proofs.Carrying.{carried_out}
use Rattle.fork_call.proofs.Kept.{cut_off_keeps_number}
use Rattle.fork_call.proofs.port.carry.Goals as goal

pub returns-in_err-run-clause-number : goal.returns-in_err-run-clause-number
returns-in_err-run-clause-number g c =
    cut_off_keeps_number g.P.Port.sends g.P.Port.count c.args.now c.args.call.now c.args.port.now c.run_out.new.call c.run_out.new.port c.in_err-run.ensures.cut

pub returns-then-not-run-clause-done : goal.returns-then-not-run-clause-done
returns-then-not-run-clause-done g c =
    let due = is_due c.args.now c.due.result in
    carried_out g.P.Port.sends g.P.Port.count c.args.now c.args.call.now c.args.port.now c.run_out.new.call c.run_out.new.port c.in_ok-run.run'.sent c.in_ok-run.run'.failed c.in_ok-run.run'.idle c.due.result
    c.in_ok-run.ensures.done c.due.ensures c.is_due-more.result (c.is_due-more.ensures ∙ sym (ap (λ (long : Bool). long && due) c.if-not-run.true))
