use Rattle.call_state.proofs.Common.{◌≡◌, ◌∙◌, ap, sym, None, Some, option_copied, nth_branch}
use Rattle.call_state.proofs.Changing.{branch_below}
use Rattle.call_state.proofs.Failing.{cancel_faults, no_cancel_faults}
use Rattle.call_state.proofs.state.CallState.fault_cancel.Goals as goal

pub returns-in_default : goal.returns-in_default
returns-in_default g c =
    let there : nth_branch c.args.self.now c.args.n ≡ Some c.in_Some-branch.branch.now = sym c.branch-branch.ensures ∙ ap option_copied c.in_Some-branch.is in
    let none : c.in_Some-branch.branch.now.cancelling ≡ None = sym c.cancelling.ensures ∙ ap option_copied c.in_default.is in
    no_cancel_faults c.args.self.now c.args.n c.args.now c.in_Some-branch.branch.now there none

pub cancel_on_branch-requires : goal.cancel_on_branch-requires
cancel_on_branch-requires g c =
    let there : nth_branch c.args.self.now c.args.n ≡ Some c.in_Some-branch.branch.now = sym c.branch-branch.ensures ∙ ap option_copied c.in_Some-branch.is in
    record { there = branch_below c.args.self.now c.args.n c.in_Some-branch.branch.now there }

pub returns : goal.returns
returns g c =
    let there : nth_branch c.args.self.now c.args.n ≡ Some c.in_Some-branch.branch.now = sym c.branch-branch.ensures ∙ ap option_copied c.in_Some-branch.is in
    let is : c.in_Some-branch.branch.now.cancelling ≡ Some c.in-Some.cancelling.now = sym c.cancelling.ensures ∙ ap option_copied c.in-Some.is in
    cancel_faults c.args.self.now c.args.n c.args.now c.in_Some-branch.branch.now there c.cancel_on_branch.new.self c.in-Some.cancelling.now c.on_event-client.result.0 is
    c.on_event-client.ensures.after c.cancel_on_branch.ensures
