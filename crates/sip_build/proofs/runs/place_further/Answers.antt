use Rattle.sip_build.proofs.Common.{header_text, view_line}
use Rattle.sip_build.proofs.Placed.{fits-next}
use Rattle.sip_build.proofs.runs.place_further.Goals as goal

pub place_line-end-requires : goal.place_line-end-requires
place_line-end-requires c =
    fits-next (λ f. header_text (view_line f)) c.args.out.now c.loop-line.out c.args.lines.now c.loop-line.line-index c.args.at c.loop-line.end _ c.loop-line-test.true c.loop-line.invariant c.requires
