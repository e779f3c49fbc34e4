use Rattle.proxy_dispatch.proofs.Common.{seen_sent}
use Rattle.fork_call.specs.Prepared.{IsStoppedFor}
use Rattle.proxy_dispatch.proofs.Rejecting.{came_back, no_memory, rejected_at, stopped_by}
use Rattle.proxy_dispatch.proofs.requests.prepared.Goals as goal

pub rejected-requires-clause-some : goal.rejected-requires-clause-some
rejected-requires-clause-some g c =
    let o = c.args.opening in
    no_memory c.args.setup.now o.request o.source c.in-Rejected.fault c.in-Rejected.request
    (rejected_at (IsStoppedFor c.args.setup.now o.request o.source) c.in-Err.why c.in-Rejected.fault c.in-Rejected.request c.in-Rejected.is c.in-Err.ensures.refused).1

pub returns-in_ok-rejected-in-Rejected-clause-stopped : goal.returns-in_ok-rejected-in-Rejected-clause-stopped
returns-in_ok-rejected-in-Rejected-clause-stopped g c =
    let o = c.args.opening in
    let outcome = c.in_ok-rejected-in-Rejected.field-0 in
    let by = rejected_at (IsStoppedFor c.args.setup.now o.request o.source) c.in-Err.why c.in-Rejected.fault c.in-Rejected.request c.in-Rejected.is c.in-Err.ensures.refused in
    stopped_by c.args.setup.now o.request o.source c.in-Rejected.fault outcome.handled (seen_sent outcome.datagram) by.0 (c.in_ok-rejected-in-Rejected.ensures c.args.setup.now o.request c.requires.top by.1)

pub rejected-requires-clause-top : goal.rejected-requires-clause-top
rejected-requires-clause-top g c =
    let o = c.args.opening in
    came_back c.args.setup.now o.request o.source c.args.top.now c.in-Rejected.fault c.in-Rejected.request c.requires.top
    (rejected_at (IsStoppedFor c.args.setup.now o.request o.source) c.in-Err.why c.in-Rejected.fault c.in-Rejected.request c.in-Rejected.is c.in-Err.ensures.refused).1.1
