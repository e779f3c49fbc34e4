use Rattle.call_state.proofs.Matched.{unnamed}
use Rattle.call_state.proofs.matching.response_recipient.Goals as goal

pub returns-in_err-branch-clause-none : goal.returns-in_err-branch-clause-none
returns-in_err-branch-clause-none g c =
    let call = c.args.state.now in
    let m = c.args.message.now in
    rw c.from_residual.ensures
    (unnamed call m c.opened-opened.result.now c.own.result c.branch-opened.result c.requires c.opened-opened.ensures c.own.ensures c.branch-opened.ensures c.are_branches.ensures
    c.in_err-branch.ensures.none)
