use Rattle.sip_build.proofs.Common.{lines_text, views}
use Rattle.sip_build.proofs.Placed.{Placing}
use Rattle.sip_build.proofs.runs.place_headers.Given as goal

abbrev pub invariant-loop-line : goal.invariant-loop-line
invariant-loop-line l = Placing l.fn.out l.out l.at (lines_text (views l.headers)) l.end (lines_text (views l.line-iterator))
