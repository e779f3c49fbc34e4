use Rattle.sip_uri.proofs.Common.{◌≡◌, ◌+◌, drop, front_len}
use Rattle.sip_uri.proofs.write.front_len.Given as goal

abbrev pub invariant-loop-i : goal.invariant-loop-i
invariant-loop-i l = l.i + front_len (drop l.i l.text) ≡ front_len l.text
