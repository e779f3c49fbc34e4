use Rattle.sip_build.proofs.Common.{flat_map, picked, lines_text, views}
use Rattle.sip_build.proofs.Placed.{Placing}
use Rattle.sip_build.proofs.runs.place_picked.Given as goal

abbrev pub invariant-loop-line : goal.invariant-loop-line
invariant-loop-line l = Placing l.fn.out l.out l.at (flat_map (λ h. lines_text (picked l.pick h)) (views l.headers)) l.end (flat_map (λ h. lines_text (picked l.pick h)) (views l.line-iterator))
