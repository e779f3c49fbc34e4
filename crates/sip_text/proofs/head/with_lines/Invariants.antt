use Rattle.sip_text.proofs.Common.{◌≡◌, ◌≤◌, false, drop, length, take, continued, begins_with_space, tail_at}
use Rattle.sip_lex.specs.Places.{IsEnd}
use Rattle.sip_text.proofs.head.with_lines.Given as goal

abbrev pub invariant-loop-rest : goal.invariant-loop-rest
invariant-loop-rest g l = record {
  begins : take l.start l.kept.items ≡ l.fn.kept.items;
  long : l.start ≤ length l.kept.items;
  reads : continued (drop l.start l.kept.items) (tail_at l.rest) ≡ continued l.value (tail_at l.text);
  front : begins_with_space (drop l.start l.kept.items) ≡ false;
  end : IsEnd l.text l.rest;
}

abbrev pub decreases-loop-rest : goal.decreases-loop-rest
decreases-loop-rest g l = length l.rest
