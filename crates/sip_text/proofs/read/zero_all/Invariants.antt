use Rattle.sip_text.proofs.Common.{◌≡◌, ◌++◌, drop, length, map, take, headers_in, zeroed}
use Rattle.sip_text.specs.inner.Kept.{AreLinesWithin}
use Rattle.sip_text.proofs.read.zero_all.Given as goal

abbrev pub invariant-loop-line : goal.invariant-loop-line
invariant-loop-line l = record {
  value : headers_in l.text l.lines ≡ map zeroed (take l.line-index (headers_in l.text l.fn.lines)) ++ drop l.line-index (headers_in l.text l.fn.lines);
  within : AreLinesWithin (length l.text) l.lines;
}
