-- What stands behind a text that another one begins with.
use Rattle.std.proofs.Common.{◌≡◌, ◌≢◌, ℕ, true, false, ◌+◌, List, [], ◌∷◌, ◌++◌, length, take, drop, Option, refl, sym, ap, ◌∙◌, Bor, IfSome, IfNone}
use Rattle.std.specs.Prelude.{MatchOption, nat_eq}
use Rattle.std.specs.declared.option.Option.TheVariants.{Some, None}
use Rattle.std.specs.Cmp.Lexicographic.{pointwise}
use Rattle.std.proofs.lemmas.Slice.Eq.{bytes_eq-Decides}
use Rattle.std.proofs.lemmas.List.{take-append-drop}

take_front : (front rest : List ℕ) → take (length front) (front ++ rest) ≡ front
take_front [] rest = refl
take_front (b ∷ bs) rest = ap (λ l. b ∷ l) (take_front bs rest)

-- what is found behind a text at the front
abbrev pub IsFound : List ℕ → List ℕ → Option (Bor (List ℕ)) → Type 0
IsFound front text found = MatchOption found (pointwise nat_eq (take (length front) text) front ≡ false)
    (λ rest. (pointwise nat_eq (take (length front) text) front ≡ true) × (rest.now ≡ drop (length front) text) × (length rest.now + length front ≡ length text))

pub found_behind : (front text : List ℕ) (found : Option (Bor (List ℕ))) → IsFound front text found → IfSome found (λ rest. text ≡ front ++ rest.now)
found_behind front text None is = tt
found_behind front text (Some rest) is =
    sym (take-append-drop (length front) text)
    ∙ ap (λ l. l ++ drop (length front) text) ((bytes_eq-Decides (take (length front) text) front).0 is.0)
    ∙ ap (λ l. front ++ l) (sym is.1)

pub none_behind : (front text : List ℕ) (found : Option (Bor (List ℕ))) → IsFound front text found → IfNone found ((rest : List ℕ) → text ≢ front ++ rest)
none_behind front text None is = λ rest whole. wrong (sym is ∙ (bytes_eq-Decides (take (length front) text) front).1 (ap (λ l. take (length front) l) whole ∙ take_front front rest))
  where
    wrong : false ≡ true → ⊥
    wrong e = absurd cc
none_behind front text (Some rest) is = tt
