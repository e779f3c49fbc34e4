use Rattle.sip_build.proofs.Common.{◌≡◌, ◌∙◌, ℕ, List, Option, ap, sym, codes, cut, first_value, is_space, or_empty, begins_with_zero}
use Rattle.sip_build.proofs.PlainCSeq.{as-written}
use Rattle.sip_build.proofs.hop_by_hop.plain_number.Goals as goal

pub returns : goal.returns
returns g c =
    let first = first_value (codes "cseq") c.args.message.now.headers in
    let same : c.cut_at_space.result.0.now ≡ (cut is_space (or_empty first)).0 =
    ap (λ (r : List ℕ × Option (List ℕ)). r.0) c.cut_at_space.ensures.value ∙ ap (λ (t : List ℕ). (cut is_space t).0) c.first_value.ensures in
    let plain = sym (ap begins_with_zero same) ∙ sym c.begins_with_zero.ensures ∙ c.if-begins_with_zero.false in
    same ∙ as-written c.args.message.now.start first plain c.is_message.ensures.head.cseq
