use Rattle.call_state.proofs.Common.{◌<◌, ◌≤◌, arith, length, event_of}
use Rattle.call_state.proofs.Changing.{ended_part, branch_below}
use Rattle.call_state.proofs.state.CallState.end_branch.Goals as goal

pub respond_branch-requires : goal.respond_branch-requires
respond_branch-requires g c =
    let below : c.args.n < length c.args.self.now.branches = branch_below c.args.self.now c.args.n c.part-part.result.now c.part-part.ensures in
    let longer : length c.args.self.now.branches ≤ length c.post_bare.new.self.branches = c.in_ok-post_bare.ensures.longer in
    record { there = omega (arith, below, longer) }

pub returns-clause-ok : goal.returns-clause-ok
returns-clause-ok g c =
    ended_part c.args.self.now c.post_bare.new.self c.respond_branch.new.self c.args.n c.part-part.result.now c.args.client (event_of c.args.event)
    c.part-part.ensures c.in_ok-post_bare.ensures.ok c.respond_branch.ensures
