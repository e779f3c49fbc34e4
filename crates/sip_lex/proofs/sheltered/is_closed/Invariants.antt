use Rattle.sip_lex.proofs.Common.{◌≡◌, fold, take, Plain, place_after}
use Rattle.sip_lex.proofs.sheltered.is_closed.Given as goal

abbrev pub invariant-loop-byte : goal.invariant-loop-byte
invariant-loop-byte l = l.place ≡ fold (place_after l.shelter) Plain (take l.byte-index l.text)
