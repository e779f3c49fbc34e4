use Rattle.sip_lex.proofs.Common.{arith, common_steps}
use Rattle.sip_lex.proofs.Parts.{end_dropped}
use Rattle.sip_lex.proofs.line.skip_line_ends.Goals as goal

pub loop-rest-preserved : goal.loop-rest-preserved
loop-rest-preserved c = record {
  value = grind (arith, common_steps);
  end = end_dropped c.args.text.now c.loop-rest.rest.now 2 c.loop-rest.invariant.end;
}
