use Rattle.proxy_dispatch.proofs.Common.{[], inl, inr, refl, IfOk-weaker}
use Rattle.fork_call.specs.Opening.{IsRefusedFor, with_token}
use Rattle.proxy_dispatch.proofs.Rejecting.{came_back, no_memory, rejected_at}
use Rattle.proxy_dispatch.proofs.requests.opened_by.Goals as goal

pub rejected-requires-clause-some : goal.rejected-requires-clause-some
rejected-requires-clause-some g c =
    let o = c.args.opening in
    no_memory (with_token c.args.token c.args.setup.now) o.request o.source c.in-Rejected.fault c.in-Rejected.request
    (rejected_at (IsRefusedFor (with_token c.args.token c.args.setup.now) o.request o.source) c.in-Err.why c.in-Rejected.fault c.in-Rejected.request c.in-Rejected.is c.in-Err.ensures.refused)

pub returns-in-Ok : goal.returns-in-Ok
returns-in-Ok g c = c.put.ensures (with_token c.args.token c.args.setup.now) c.args.opening.request c.in-Ok.ensures.opened

pub returns-in-Rejected : goal.returns-in-Rejected
returns-in-Rejected g c =
    let o = c.args.opening in
    IfOk-weaker c.rejected.result _ _ (λ outcome h. ([], refl, inr (inl h.0)))
    (c.rejected.ensures (with_token c.args.token c.args.setup.now) o.request c.requires.top
    (rejected_at (IsRefusedFor (with_token c.args.token c.args.setup.now) o.request o.source) c.in-Err.why c.in-Rejected.fault c.in-Rejected.request c.in-Rejected.is c.in-Err.ensures.refused))

pub rejected-requires-clause-top : goal.rejected-requires-clause-top
rejected-requires-clause-top g c =
    let o = c.args.opening in
    came_back (with_token c.args.token c.args.setup.now) o.request o.source c.args.top.now c.in-Rejected.fault c.in-Rejected.request c.requires.top
    (rejected_at (IsRefusedFor (with_token c.args.token c.args.setup.now) o.request o.source) c.in-Err.why c.in-Rejected.fault c.in-Rejected.request c.in-Rejected.is c.in-Err.ensures.refused).1
