use Rattle.proxy_dispatch.proofs.Common.{[], None, ap, inl, inr, refl, seen_sent}
use Rattle.fork_call.specs.Prepared.{IsPreparedAs}
use Rattle.proxy_dispatch.specs.declared.datagrams.Handled.TheVariants.{Left}
use Rattle.proxy_dispatch.specs.Becomes.{IsStopped}
use Rattle.proxy_dispatch.proofs.Outcomes.{err_at, ok_at}
use Rattle.proxy_dispatch.proofs.requests.left.Goals as goal

pub returns-in-Ok : goal.returns-in-Ok
returns-in-Ok g c =
    let o = c.args.opening in
    let is = ok_at c.in_ok-prepared.field-0 (IsPreparedAs c.args.setup.now o.request o.source) c.in-Ok.field-0 c.in-Ok.is c.in_ok-prepared.ensures.passed in
    inr (refl, (c.in-Ok.field-0, is), c.silent.ensures.handled, ap seen_sent c.silent.ensures.silent)
