use Rattle.proxy_dispatch.proofs.Common.{[], None, ap, inl, inr, refl, IfOk-weaker, seen_sent}
use Rattle.proxy_dispatch.specs.Becomes.{ResponseBecomes}
use Rattle.proxy_dispatch.specs.declared.datagrams.Handled.TheVariants.{Dropped}
use Rattle.proxy_dispatch.proofs.Outcomes.{outcome_at}
use Rattle.proxy_dispatch.proofs.responses.responded.Goals as goal

pub returns-in-Some : goal.returns-in-Some
returns-in-Some g c = IfOk-weaker c.deliver_response.result _ _ (λ outcome h. (h.0, h.1, inl (_, c.in-Some.ensures.home, h.2))) c.deliver_response.ensures

pub returns-in-None : goal.returns-in-None
returns-in-None g c = (
  [],
  refl,
  outcome_at (λ handled sent. ResponseBecomes c.args.setup.now c.args.response c.args.source c.args.now [] handled sent)
      c.silent.result.handled Dropped (seen_sent c.silent.result.datagram) None c.silent.ensures.handled (ap seen_sent c.silent.ensures.silent)
      (inr (c.in-None.ensures.none, refl, refl, refl)),
)
