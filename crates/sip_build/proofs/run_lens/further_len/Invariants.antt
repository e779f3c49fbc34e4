use Rattle.sip_build.proofs.Common.{◌≡◌, take, length, flat_map, header_text, view_line, saturated}
use Rattle.sip_build.proofs.run_lens.further_len.Given as goal

abbrev pub invariant-loop-line : goal.invariant-loop-line
invariant-loop-line l = l.len ≡ saturated (length (flat_map (λ f. header_text (view_line f)) (take l.line-index l.lines)))
