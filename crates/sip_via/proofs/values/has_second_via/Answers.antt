use Rattle.sip_via.proofs.Common.{◌≡◌, ◌∙◌, ◌++◌, ◌∷◌, [], ℕ, Bor, List, Option, Plain, Quotes, ap, cut_outside, false, flat_map, map, option_copied, pieces_outside-cut, refl, sym, trim, true, values_in, values_behind, arith}
use Rattle.std.specs.Iterator.{YieldsFirstBy}
use Rattle.std.specs.Option.{is_some}
use Rattle.sip_via.proofs.ViaWalk.{next_value}
use Rattle.sip_via.specs.TopVia.{has_second}
use Rattle.sip_via.proofs.values.has_second_via.Goals as goal

-- each line begins with a value
begins : (line : List ℕ) → values_in line ≡ trim (cut_outside Quotes 44 Plain line).0 ∷ values_behind (cut_outside Quotes 44 Plain line).1
begins line = ap (map trim) (pieces_outside-cut Quotes 44 line)

-- so a line behind a value holds the second
second-line : (value line : List ℕ) (rest : List (List ℕ)) → has_second (value ∷ (values_in line ++ rest)) ≡ true
second-line value line rest = ap (λ (vs : List (List ℕ)). has_second (value ∷ (vs ++ rest))) (begins line)

two-lines : (first line : List ℕ) (rest : List (List ℕ)) → has_second (values_in first ++ (values_in line ++ rest)) ≡ true
two-lines first line rest = grind (arith, begins)

one-line : (line value : List ℕ) (after : Option (Bor (List ℕ))) → values_in line ≡ value ∷ values_behind (option_copied after) → is_some after ≡ has_second (values_in line ++ [])
one-line line value after e = grind (arith, second-line)

-- how the lines behind the first give their next one
abbrev Gives : List (List ℕ) → Option (Bor (List ℕ)) → List (List ℕ) → Type 0
Gives lines next left = YieldsFirstBy (λ (v : Bor (List ℕ)). v.now) (λ (s : List (List ℕ)). s) lines next left

with-next : (line : List ℕ) (lines left : List (List ℕ)) (next : Option (Bor (List ℕ))) → Gives lines next left → true ≡ is_some next → true ≡ has_second (values_in line ++ flat_map values_in lines)
with-next line lines left next h e = grind (arith, two-lines)

without-next : (line value : List ℕ) (lines left : List (List ℕ)) (next after : Option (Bor (List ℕ))) → Gives lines next left → is_some next ≡ false → values_in line ≡ value ∷ values_behind (option_copied after) → is_some after ≡ has_second (values_in line ++ flat_map values_in lines)
without-next line value lines left next after h e v = grind (arith, one-line)

pub returns-then-is_some : goal.returns-then-is_some
returns-then-is_some g c =
    with-next c.in-Some.line.now c.next.new.self c.next-2.new.self c.next-2.result c.next-2.ensures.steps c.if-is_some.ensures
    ∙ ap (λ (ls : List (List ℕ)). has_second (flat_map values_in ls)) (sym c.in-Some.ensures.steps ∙ c.values-lines.ensures)

pub returns : goal.returns
returns g c =
    let line = c.in-Some.line.now in
    c.is_some-2.ensures
    ∙ without-next line (trim c.cut_outside.result.0.now) c.next.new.self c.next-2.new.self c.next-2.result c.cut_outside.result.1 c.next-2.ensures.steps (sym c.is_some.ensures ∙ c.if-is_some.false) (next_value line c.cut_outside.result (trim c.cut_outside.result.0.now) c.cut_outside.ensures.value refl)
    ∙ ap (λ (ls : List (List ℕ)). has_second (flat_map values_in ls)) (sym c.in-Some.ensures.steps ∙ c.values-lines.ensures)
