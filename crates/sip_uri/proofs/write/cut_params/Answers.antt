use Rattle.sip_uri.proofs.Common.{◌∙◌, ◌-◌, List, ℕ, ap, length, refl, sym, params_in}
use Rattle.sip_uri.proofs.Tails.{head_found, request_joins}
use Rattle.sip_uri.proofs.write.cut_params.Goals as goal

pub returns : goal.returns
returns c =
    let text = c.args.text.now in
    let tail = c.tail_of-tail.ensures.value in
    let head = head_found text (length text - length c.tail_of-tail.result.now) c.requires.uri (ap (λ (x : List ℕ). length text - length x) tail) in
    sym (request_joins text _ _ _ c.requires.uri head (c.params_in.ensures ∙ ap params_in tail) refl)
