use Rattle.sip_text.proofs.Common.{arith, length, refl}
use Rattle.sip_text.proofs.Places.{lines_set}
use Rattle.sip_text.proofs.Zeroed.{zero_next}
use Rattle.sip_text.proofs.read.zero_all.Goals as goal

pub loop-line-preserved : goal.loop-line-preserved
loop-line-preserved c =
    let lines = c.loop-line.lines in
    let n = c.loop-line.line-index in
    record {
      value = zero_next c.args.text.now c.args.lines.now lines n _ _ c.zeroed.result (omega arith) c.loop-line.auto.lines c.loop-line.invariant.value refl c.zeroed.ensures.value;
      within = lines_set (length c.args.text.now) lines n c.zeroed.result c.loop-line.invariant.within c.zeroed.ensures.still;
    }
