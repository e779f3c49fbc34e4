use Rattle.sip_build.proofs.Common.{◌≡◌, ◌+◌, length, flat_map, picked, lines_text, saturated, views}
use Rattle.sip_build.proofs.run_lens.picked_len.Given as goal

abbrev pub invariant-loop-line : goal.invariant-loop-line
invariant-loop-line l = record {
  fits : saturated l.len ≡ l.len;
  whole : saturated (l.len + length (flat_map (λ h. lines_text (picked l.pick h)) (views l.line-iterator))) ≡ saturated (length (flat_map (λ h. lines_text (picked l.pick h)) (views l.headers)));
}
