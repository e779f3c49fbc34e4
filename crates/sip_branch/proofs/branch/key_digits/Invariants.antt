use Rattle.sip_branch.proofs.Common.{◌≡◌, ◌*◌, length, take, hex_text}
use Rattle.sip_branch.proofs.branch.key_digits.Given as goal

abbrev pub invariant-loop-i : goal.invariant-loop-i
invariant-loop-i l = record {
  size : length l.digits ≡ 32;
  so : take (2 * l.i) l.digits ≡ hex_text (take l.i l.key);
}
