use Rattle.sip_text.proofs.Common.{◌≡◌, length, take, prepended, headers_at, headers_in}
use Rattle.sip_text.specs.inner.Kept.{AreLinesWithin}
use Rattle.sip_lex.specs.Places.{IsEnd}
use Rattle.sip_text.proofs.head.headers_of.Given as goal

abbrev pub invariant-loop-line : goal.invariant-loop-line
invariant-loop-line g l = record {
  reads : prepended (headers_in l.kept.items l.lines.items) (headers_at l.rest) ≡ headers_at l.text;
  begins : take (length l.whole) l.kept.items ≡ l.whole;
  within : AreLinesWithin (length l.kept.items) l.lines.items;
  end : IsEnd l.whole l.rest;
}

abbrev pub decreases-loop-line : goal.decreases-loop-line
decreases-loop-line g l = length l.rest
