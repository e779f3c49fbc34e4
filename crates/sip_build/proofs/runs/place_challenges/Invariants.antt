use Rattle.sip_build.proofs.Common.{take, flat_map, header_text, Placed, challenge_line}
use Rattle.sip_build.proofs.runs.place_challenges.Given as goal

abbrev pub invariant-loop-challenge : goal.invariant-loop-challenge
invariant-loop-challenge g l = Placed l.fn.out l.out l.at (flat_map (λ c. header_text (challenge_line c)) (take l.challenge-index l.challenges)) l.end
