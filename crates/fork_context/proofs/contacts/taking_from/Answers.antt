use Rattle.fork_context.proofs.Common.{rules}
use Rattle.fork_context.proofs.PlainContacts.{taken_by_keys}
use Rattle.fork_context.proofs.contacts.taking_from.Goals as goal

pub loop-place-preserved : goal.loop-place-preserved
loop-place-preserved g c =
    taken_by_keys _ _ c.args.offers.now c.loop-place.place c.index-offers-place.result _ _ _ (search rules) c.index-offers-place.is c.in_ok-take_contact.ensures.taken c.in_ok-take_contact.ensures.keys c.loop-place.invariant
