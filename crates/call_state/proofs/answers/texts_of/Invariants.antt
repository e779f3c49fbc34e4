use Rattle.call_state.proofs.Common.{◌≡◌, map, take, texts, text_of}
use Rattle.call_state.proofs.answers.texts_of.Given as goal

abbrev pub invariant-loop-offer : goal.invariant-loop-offer
invariant-loop-offer g l = texts l.made.items ≡ map text_of (take l.offer-index l.offers)
