use Rattle.sip_digest.proofs.Common.{◌≡◌, drop, bytes_eq, ◌&&◌, str_to_ascii_lowercase}
use Rattle.sip_digest.proofs.same.is_same_lowered.Given as goal

abbrev pub invariant-loop-i : goal.invariant-loop-i
invariant-loop-i l = (l.same && bytes_eq (drop l.i (str_to_ascii_lowercase l.text)) (drop l.i l.other)) ≡ bytes_eq (str_to_ascii_lowercase l.text) l.other
