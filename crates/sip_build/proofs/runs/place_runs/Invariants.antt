use Rattle.sip_build.proofs.Common.{take, flat_map, lines_of, Placed, lines_text}
use Rattle.sip_build.proofs.runs.place_runs.Given as goal

abbrev pub invariant-loop-run : goal.invariant-loop-run
invariant-loop-run g l = Placed l.fn.out l.out l.at (flat_map (λ g. lines_text (lines_of g)) (take l.run-index l.runs)) l.end
