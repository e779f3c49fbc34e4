use Rattle.sip_build.proofs.Common.{◌≡◌, ◌+◌, length, saturated, lines_text, views}
use Rattle.sip_build.proofs.run_lens.kept_len.Given as goal

abbrev pub invariant-loop-line : goal.invariant-loop-line
invariant-loop-line l = record {
  fits : saturated l.len ≡ l.len;
  whole : saturated (l.len + length (lines_text (views l.line-iterator))) ≡ saturated (length (lines_text (views l.headers)));
}
