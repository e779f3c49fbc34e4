use Rattle.sip_build.proofs.Common.{List, ℕ, ap, ◌∙◌, header_text, line, challenge_line, challenge_name}
use Rattle.sip_build.proofs.Placed.{fits-item}
use Rattle.sip_build.proofs.runs.place_challenges.Goals as goal

pub place_line-end-requires : goal.place_line-end-requires
place_line-end-requires g c =
    let part =
    ap (λ (name : List ℕ). header_text (line name c.value.result.now)) c.challenge_name-name.ensures
    ∙ ap (λ (value : List ℕ). header_text (line (challenge_name c.proxy.result) value)) c.value.ensures
    ∙ ap (λ proxy. header_text (line (challenge_name proxy) c.challenge-item.result.value)) c.proxy.ensures in
    fits-item (λ x. header_text (challenge_line x)) c.args.out.now c.loop-challenge.out c.args.challenges.now c.loop-challenge.challenge-index c.args.at c.loop-challenge.end c.challenge-item.result (header_text (line c.challenge_name-name.result.now c.value.result.now)) c.loop-challenge-test.true c.loop-challenge.invariant c.requires c.challenge-item.is part
