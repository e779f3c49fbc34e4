use Rattle.sip_text.proofs.Common.{List, HeaderText, length, subst, sym}
use Rattle.sip_text.specs.inner.Found.{Finds}
use Rattle.sip_text.proofs.LinesWithin.{within_at}
use Rattle.sip_text.proofs.NeededFields.{headers_more}
use Rattle.sip_text.proofs.found.found_in.Goals as goal

pub loop-line-preserved : goal.loop-line-preserved
loop-line-preserved c =
    subst (λ (hs : List HeaderText). Finds c.args.text.now hs c.add-found.result)
    (sym (headers_more c.args.text.now c.args.lines.now c.loop-line.line-index (record { name = record { start = 0; len = 0 }; value = record { start = 0; len = 0 } }) c.loop-line-test.true))
    (c.add-found.ensures _ c.loop-line.invariant)

pub loop-line-init : goal.loop-line-init
loop-line-init c = c.none-found.ensures c.args.text.now

pub add-found-requires : goal.add-found-requires
add-found-requires c = within_at (length c.args.text.now) c.args.lines.now c.loop-line.line-index (record { name = record { start = 0; len = 0 }; value = record { start = 0; len = 0 } }) c.requires c.loop-line-test.true
