use Rattle.sip_text.proofs.Common.{◌≡◌, length, values_of, views}
use Rattle.sip_text.proofs.name.split_header.Given as goal

abbrev pub invariant-loop-header : goal.invariant-loop-header
invariant-loop-header l = values_of l.name (views l.rest) ≡ values_of l.name (views l.headers)

abbrev pub decreases-loop-header : goal.decreases-loop-header
decreases-loop-header l = length (views l.rest)
