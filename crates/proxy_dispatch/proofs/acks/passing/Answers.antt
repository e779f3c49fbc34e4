use Rattle.proxy_dispatch.proofs.Common.{IfOk-weaker, seen_sent}
use Rattle.proxy_dispatch.proofs.Becoming.{passes_if, stopped}
use Rattle.fork_call.proofs.laws.Readable.{admitted_reads}
use Rattle.proxy_dispatch.proofs.acks.passing.Goals as goal

pub going_on-requires-clause-readable : goal.going_on-requires-clause-readable
going_on-requires-clause-readable g c =
    admitted_reads c.args.setup.now c.args.ack c.in-Ok.request c.args.source c.in-Ok.ensures.admitted c.in-Ok.ensures.start

pub returns-in-Ok : goal.returns-in-Ok
returns-in-Ok g c =
    IfOk-weaker c.going_on.result _ _
    (λ sent h. passes_if c.args.setup.now c.args.ack c.args.source c.in-Ok.request c.in-Ok.ensures.admitted (seen_sent sent) h)
    c.going_on.ensures

pub returns-in-Some : goal.returns-in-Some
returns-in-Some g c =
    stopped c.args.setup.now c.args.ack c.args.source c.in-Err.why c.in-Err.ensures.refused c.fault.result c.fault.ensures c.status.result c.status.ensures _ c.in-Some.is
