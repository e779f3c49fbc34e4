use Rattle.sip_via.proofs.Common.{◌≡◌, ◌∙◌, ◌≤◌, ◌+◌, ◌-◌, Bor, List, None, Option, Some, ap, arith, behind, is_via, length, option_copied, parts_of, suc, sym, take, true, ℕ, common_steps}
use Rattle.sip_via.proofs.laws.ViaFronts.{cuts-at-params}
use Rattle.sip_via.proofs.marks.front_len.Goals as goal

-- the `;` and the parameters are within the value
behind-params : (value text : List ℕ) → is_via value ≡ true → (parts_of value).params ≡ Some text → 1 + length text ≤ length value
behind-params value text via is = grind (arith, common_steps, cuts-at-params value via)

pub overflow_sub-result : goal.overflow_sub-result
overflow_sub-result c = grind (arith, behind-params)

pub overflow_sub-result-in-Some : goal.overflow_sub-result-in-Some
overflow_sub-result-in-Some c = grind (arith, behind-params)

pub returns-in-None-clause-cuts : goal.returns-in-None-clause-cuts
returns-in-None-clause-cuts c =
    let value = c.args.value.now in
    let is : (parts_of value).params ≡ None = sym c.requires.params ∙ ap (λ (o : Option (Bor (List ℕ))). option_copied o) c.in-None.is in
    let long : length (behind 59 (parts_of value).params) ≡ 0 = ap (λ (o : Option (List ℕ)). length (behind 59 o)) is in
    (cuts-at-params value c.requires.via).cuts (length value) (omega (arith, long)) ∙ ap (λ (o : Option (List ℕ)). (take (length value) value, o)) (sym c.requires.params)

pub returns-in-Some-clause-cuts : goal.returns-in-Some-clause-cuts
returns-in-Some-clause-cuts c =
    let value = c.args.value.now in
    let text = c.in-Some.text.now in
    let n = length value - length text - 1 in
    let is : (parts_of value).params ≡ Some text = sym c.requires.params ∙ ap (λ (o : Option (Bor (List ℕ))). option_copied o) c.in-Some.is in
    let long : length (behind 59 (parts_of value).params) ≡ suc (length text) = ap (λ (o : Option (List ℕ)). length (behind 59 o)) is in
    let k = behind-params value text c.requires.via is in
    (cuts-at-params value c.requires.via).cuts n (omega (arith, long, k)) ∙ ap (λ (o : Option (List ℕ)). (take n value, o)) (sym c.requires.params)
