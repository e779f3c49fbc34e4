use Rattle.sip_build.proofs.Common.{◌≡◌, ◌++◌, ◌+◌, ◌*◌, length, take, codes, hex_text}
use Rattle.sip_build.proofs.tag.tag_of.Given as goal

abbrev pub invariant-loop-i : goal.invariant-loop-i
invariant-loop-i l = record {
  size : length l.tag ≡ 18;
  so : take (2 * l.i + 2) l.tag ≡ codes "fp" ++ hex_text (take l.i l.digest);
}
