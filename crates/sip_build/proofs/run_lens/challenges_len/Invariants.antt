use Rattle.sip_build.proofs.Common.{◌≡◌, take, length, flat_map, header_text, challenge_line, saturated}
use Rattle.sip_build.proofs.run_lens.challenges_len.Given as goal

abbrev pub invariant-loop-challenge : goal.invariant-loop-challenge
invariant-loop-challenge g l = l.len ≡ saturated (length (flat_map (λ c. header_text (challenge_line c)) (take l.challenge-index l.challenges)))
