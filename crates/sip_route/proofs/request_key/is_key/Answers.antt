use Rattle.sip_route.proofs.Common.{◌≡◌, ◌∙◌, ◌∷◌, ◌++◌, List, ap, false≢true, sym, ℕ}
use Rattle.std.proofs.lemmas.Slice.Eq.{bytes_eq-Decides}
use Rattle.std.specs.Fmt.{decimal}
use Rattle.sip_route.proofs.KeyRead.{behind_colon, behind_host, behind_port, behind_space, whole}
use Rattle.sip_route.proofs.request_key.is_key.Goals as goal

pub returns-in_default-behind : goal.returns-in_default-behind
returns-in_default-behind c =
    let k = c.args.key.now in
    let tail = decimal k.port ++ (32 ∷ k.branch.now) in
    (λ wrong. absurd (false≢true wrong), λ is. absurd (c.in_default-behind.ensures.none tail (behind_host c.args.text.now k.host.now k.port k.branch.now c.in-Some.rest.now c.in-Some.ensures.found is)))

pub returns-in_default-behind-2 : goal.returns-in_default-behind-2
returns-in_default-behind-2 c =
    let k = c.args.key.now in
    let digits : c.as_bytes-port.result.now ≡ decimal k.port = c.as_bytes-port.ensures.value ∙ c.format.ensures.text in
    let tail = 32 ∷ k.branch.now in (
      λ wrong. absurd (false≢true wrong),
      λ is. absurd (c.in_default-behind-2.ensures.none tail
          (behind_colon c.args.text.now k.host.now k.port k.branch.now c.in-Some.rest.now c.in-Some-behind.rest.now c.in-Some.ensures.found c.in-Some-behind.ensures.found is
          ∙ ap (λ (ds : List ℕ). ds ++ tail) (sym digits))),
    )

pub returns-in_default-behind-3 : goal.returns-in_default-behind-3
returns-in_default-behind-3 c =
    let k = c.args.key.now in
    let digits : c.as_bytes-port.result.now ≡ decimal k.port = c.as_bytes-port.ensures.value ∙ c.format.ensures.text in (
      λ wrong. absurd (false≢true wrong),
      λ is. absurd (c.in_default-behind-3.ensures.none k.branch.now
          (behind_port c.args.text.now k.host.now k.port k.branch.now c.in-Some.rest.now c.in-Some-behind.rest.now c.in-Some-behind-2.rest.now c.as_bytes-port.result.now digits
          c.in-Some.ensures.found c.in-Some-behind.ensures.found c.in-Some-behind-2.ensures.found is)),
    )

pub returns : goal.returns
returns c =
    let k = c.args.key.now in
    let digits : c.as_bytes-port.result.now ≡ decimal k.port = c.as_bytes-port.ensures.value ∙ c.format.ensures.text in
    let branch = c.in-Some-behind-3.rest.now in
    let decides = bytes_eq-Decides branch k.branch.now in (
      λ t. whole c.args.text.now k.host.now k.port k.branch.now c.in-Some.rest.now c.in-Some-behind.rest.now c.in-Some-behind-2.rest.now branch c.as_bytes-port.result.now digits
          c.in-Some.ensures.found c.in-Some-behind.ensures.found c.in-Some-behind-2.ensures.found c.in-Some-behind-3.ensures.found
          (decides.0 (sym c.eq.ensures ∙ t)),
      λ is. (c.eq.ensures
          ∙ decides.1 (behind_space c.args.text.now k.host.now k.port k.branch.now c.in-Some.rest.now c.in-Some-behind.rest.now c.in-Some-behind-2.rest.now branch c.as_bytes-port.result.now digits
          c.in-Some.ensures.found c.in-Some-behind.ensures.found c.in-Some-behind-2.ensures.found c.in-Some-behind-3.ensures.found is)),
    )
