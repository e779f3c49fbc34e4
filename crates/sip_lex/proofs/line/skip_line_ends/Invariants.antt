use Rattle.sip_lex.proofs.Common.{◌≡◌, length}
use Rattle.sip_lex.specs.Line.{skip_line_ends}
use Rattle.sip_lex.specs.Places.{IsEnd}
use Rattle.sip_lex.proofs.line.skip_line_ends.Given as goal

abbrev pub invariant-loop-rest : goal.invariant-loop-rest
invariant-loop-rest l = record {
  value : skip_line_ends l.rest ≡ skip_line_ends l.text;
  end : IsEnd l.text l.rest;
}

abbrev pub decreases-loop-rest : goal.decreases-loop-rest
decreases-loop-rest l = length l.rest
