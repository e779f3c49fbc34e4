use Rattle.proxy_dispatch.proofs.Common.{None, ap, refl, subst, Passes, seen_sent}
use Rattle.proxy_dispatch.specs.declared.datagrams.Handled.TheVariants.{Dropped}
use Rattle.proxy_dispatch.specs.Becomes.{AckBecomes}
use Rattle.proxy_dispatch.proofs.Outcomes.{outcome_at}
use Rattle.proxy_dispatch.proofs.acks.going.Goals as goal

pub returns-in-None : goal.returns-in-None
returns-in-None g c =
    let setup = c.args.setup.now in
    let P : _ → Type 0 = λ sent. Passes setup c.args.ack c.args.source (seen_sent sent) in
    outcome_at (λ handled sent. AckBecomes setup c.args.ack c.args.source handled sent)
    c.silent.result.handled Dropped (seen_sent c.silent.result.datagram) None
    c.silent.ensures.handled (ap seen_sent c.silent.ensures.silent)
    (c.requires.other, subst P c.in-None.is c.in_ok-passing.ensures, refl)
