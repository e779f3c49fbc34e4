use Rattle.proxy_dispatch.proofs.Common.{refl, IfOk-weaker}
use Rattle.proxy_dispatch.specs.Looks.{shown}
use Rattle.proxy_dispatch.proofs.Looking.{known_so, spent_so}
use Rattle.proxy_dispatch.proofs.calls.SharedCalls.open.Goals as goal

pub returns-clause-opened : goal.returns-clause-opened
unfolding shown
returns-clause-opened g c = IfOk-weaker c.put_pending.result _ _ (λ number h. refl) c.put_pending.ensures.put

pub returns-clause-known : goal.returns-clause-known
unfolding shown
returns-clause-known g c = known_so c.put_pending.result _ _ (λ number back h. (tt, h)) c.put_pending.ensures.known

pub returns-clause-spent : goal.returns-clause-spent
unfolding shown
returns-clause-spent g c = spent_so c.put_pending.result _ tt
