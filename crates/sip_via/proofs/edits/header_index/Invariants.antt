use Rattle.sip_via.proofs.Common.{◌≡◌, ◌+◌, drop, views, place_of}
use Rattle.sip_via.proofs.edits.header_index.Given as goal

abbrev pub invariant-loop-i : goal.invariant-loop-i
invariant-loop-i l = l.i + place_of l.name (drop l.i (views l.headers)) ≡ place_of l.name (views l.headers)
