use Rattle.fork_rank.proofs.TextCommon.{◌≡◌, ◌∙◌, ℕ, List, Option, Some, None, ap, sym, arith, option_and_then, option_copied, slice_split, cut, is, plain_number_within, numbers_onto, preferred_if, common_steps}
use Rattle.fork_rank.proofs.Numbers.{none, next, too_many}
use Rattle.fork_rank.proofs.preferred_text.read_numbers.Goals as goal

pub returns-in_default : goal.returns-in_default
returns-in_default c =
    let nothing = none c.loop-number.numbers.items c.loop-number.rest.now c.cut_at.result.0.now (option_copied c.cut_at.result.1) c.cut_at.ensures.value (sym c.read_small_number.ensures.value ∙ c.in_default.is) in
    sym (ap (option_and_then preferred_if) (sym c.loop-number.invariant ∙ nothing))

pub returns-then-is_full : goal.returns-then-is_full
returns-then-is_full c = grind (arith, common_steps, too_many)

pub returns-in-None : goal.returns-in-None
returns-in-None c =
    let digits = c.cut_at.result.0.now in
    let e : (digits, None) ≡ cut (is 44) c.loop-number.rest.now = ap (λ (after : Option (List ℕ)). (digits, after)) (sym (ap option_copied c.in-None.is)) ∙ c.cut_at.ensures.value in
    let some : plain_number_within 499 digits ≡ Some c.in-Some.number = sym c.read_small_number.ensures.value ∙ c.in-Some.is in
    let step = next c.loop-number.numbers.items c.loop-number.rest.now digits None c.in-Some.number e some in
    ap preferred_if c.push.ensures.items ∙ sym (ap (option_and_then preferred_if) (sym c.loop-number.invariant ∙ step))

pub loop-number-preserved : goal.loop-number-preserved
loop-number-preserved c =
    let digits = c.cut_at.result.0.now in
    let after = c.in-Some-more.after.now in
    let e : (digits, Some after) ≡ cut (is 44) c.loop-number.rest.now = ap (λ (behind : Option (List ℕ)). (digits, behind)) (sym (ap option_copied c.in-Some-more.is)) ∙ c.cut_at.ensures.value in
    let some : plain_number_within 499 digits ≡ Some c.in-Some.number = sym c.read_small_number.ensures.value ∙ c.in-Some.is in
    ap (λ (numbers : List ℕ). numbers_onto numbers (slice_split (is 44) after)) c.push.ensures.items
    ∙ sym (next c.loop-number.numbers.items c.loop-number.rest.now digits (Some after) c.in-Some.number e some)
    ∙ c.loop-number.invariant
