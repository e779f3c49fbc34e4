use Rattle.proxy_dispatch.proofs.Common.{◌∷◌, [], None, ap, inl, refl, IfOk-weaker, seen_sent}
use Rattle.proxy_dispatch.specs.Becomes.{IsGiven}
use Rattle.proxy_dispatch.specs.Looks.{Missed, Seen}
use Rattle.proxy_dispatch.specs.declared.datagrams.Handled.TheVariants.{Dropped}
use Rattle.proxy_dispatch.proofs.Outcomes.{outcome_at}
use Rattle.proxy_dispatch.proofs.delivery.deliver_request.Goals as goal

pub returns-in-Some : goal.returns-in-Some
returns-in-Some g c =
    let seen = c.in-Some.ensures.seen in
    IfOk-weaker c.answered_by.result _ _
    (λ outcome h. (Seen c.args.number seen.0 seen.1 ∷ [], (_, seen.3, refl), h))
    (c.answered_by.ensures seen.0 seen.1 c.args.received.message c.args.received.source c.args.received.now seen.2 seen.4)

pub returns-in-None : goal.returns-in-None
returns-in-None g c = (
  Missed c.args.number ∷ [],
  (_, c.in-None.ensures.missed, refl),
  outcome_at (λ handled sent. IsGiven c.args.number c.args.received.message c.args.received.source c.args.received.now (Missed c.args.number ∷ []) handled sent)
      c.silent.result.handled Dropped (seen_sent c.silent.result.datagram) None c.silent.ensures.handled (ap seen_sent c.silent.ensures.silent) (inl refl, refl),
)
