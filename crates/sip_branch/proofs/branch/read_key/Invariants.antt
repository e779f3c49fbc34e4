use Rattle.sip_branch.proofs.Common.{◌≡◌, ◌*◌, length, take, hex_text}
use Rattle.sip_branch.proofs.branch.read_key.Given as goal

abbrev pub invariant-loop-i : goal.invariant-loop-i
invariant-loop-i l = record {
  size : length l.key ≡ 16;
  so : take (2 * l.i) l.text ≡ hex_text (take l.i l.key);
}
