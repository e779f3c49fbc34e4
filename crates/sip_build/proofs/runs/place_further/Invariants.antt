use Rattle.sip_build.proofs.Common.{take, flat_map, header_text, Placed, view_line}
use Rattle.sip_build.proofs.runs.place_further.Given as goal

abbrev pub invariant-loop-line : goal.invariant-loop-line
invariant-loop-line l = Placed l.fn.out l.out l.at (flat_map (λ f. header_text (view_line f)) (take l.line-index l.lines)) l.end
