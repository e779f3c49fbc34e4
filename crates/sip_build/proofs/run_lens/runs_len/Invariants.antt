use Rattle.sip_build.proofs.Common.{◌≡◌, take, length, flat_map, lines_of, lines_text, saturated}
use Rattle.sip_build.proofs.run_lens.runs_len.Given as goal

abbrev pub invariant-loop-run : goal.invariant-loop-run
invariant-loop-run g l = l.len ≡ saturated (length (flat_map (λ g. lines_text (lines_of g)) (take l.run-index l.runs)))
