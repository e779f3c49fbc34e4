use Rattle.sip_digest.proofs.Common.{◌≡◌, drop, bytes_eq, ◌&&◌}
use Rattle.sip_digest.proofs.same.is_same.Given as goal

abbrev pub invariant-loop-i : goal.invariant-loop-i
invariant-loop-i l = (l.same && bytes_eq (drop l.i l.text) (drop l.i l.other)) ≡ bytes_eq l.text l.other
