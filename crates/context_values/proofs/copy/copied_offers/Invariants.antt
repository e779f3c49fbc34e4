use Rattle.context_values.proofs.Common.{◌≡◌, take}
use Rattle.context_values.proofs.copy.copied_offers.Given as goal

abbrev pub invariant-loop-offer : goal.invariant-loop-offer
invariant-loop-offer g l = l.copies.items ≡ take l.offer-index l.offers
