use Rattle.call_state.proofs.Common.{◌≡◌, ◌∙◌, ap, sym, true, false, Some, option_copied, nth_branch, is_fault}
use Rattle.call_state.proofs.Failing.{fault_is_open, faulted_silent}
use Rattle.call_state.proofs.state.CallState.fault_client.Goals as goal

pub returns-then-not-is_fault-clause-ok : goal.returns-then-not-is_fault-clause-ok
returns-then-not-is_fault-clause-ok g c =
    let there : nth_branch c.args.self.now c.args.n ≡ Some c.in_Some-branch.branch.now = sym c.branch-branch.ensures ∙ ap option_copied c.in_Some-branch.is in
    let q : is_fault c.on_event-client.result.1.pass ≡ false = let a = c.is_fault.ensures in let b = c.if-not-is_fault.true in cc in
    faulted_silent c.args.self.now c.args.n c.args.now c.in_Some-branch.branch.now there c.respond_branch.new.self c.on_event-client.result.0 c.on_event-client.result.1
    c.on_event-client.ensures.after c.on_event-client.ensures.out q c.respond_branch.ensures

pub end_branch-requires-clause-fits : goal.end_branch-requires-clause-fits
end_branch-requires-clause-fits g c =
    let there : nth_branch c.args.self.now c.args.n ≡ Some c.in_Some-branch.branch.now = sym c.branch-branch.ensures ∙ ap option_copied c.in_Some-branch.is in
    let e : is_fault c.on_event-client.result.1.pass ≡ true = let a = c.is_fault.ensures in let b = c.if-not-is_fault.false in cc in
    fault_is_open c.args.self.now c.args.n c.args.now c.in_Some-branch.branch.now there c.on_event-client.result.1 c.requires.sound c.on_event-client.ensures.out e
