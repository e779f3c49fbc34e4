use Rattle.context_values.proofs.Common.{take, AllByRecursion}
use Rattle.fork_model.specs.Range.{IsOfferInRange}
use Rattle.context_values.proofs.event.read_each_q.Given as goal

abbrev pub invariant-loop-offer : goal.invariant-loop-offer
invariant-loop-offer g l = AllByRecursion IsOfferInRange (take l.offer-index l.offers)
