-- The values of a Via line: space round the whole line adds none and changes none.
use Rattle.sip_builders.proofs.Common.{◌≡◌, ℕ, Bool, true, false, not, eqb, List, [], ◌∷◌, ◌++◌, map, reverse, refl, sym, ap, ◌∙◌, inr, ◌&&◌, list_all, onto_first, and_parts, cases_Bool, cond-false, cond-true, append-nil, reverse-append, list_all-append, ShelterState}
use Rattle.sip_builders.proofs.Common.{Plain, Quotes, is_space, trim, trim_end, trim_start, pieces_from, pieces_outside_behind, cut_outside, is_plain, place_after, trim_end-reverse, and_both, values_in, is-not, common_steps, arith}
use Rattle.std.specs.Prelude.{◌⊎◌}
use Rattle.sip_lex.proofs.laws.OutsideSplits.{pieces_from-cut}
use Rattle.sip_lex.proofs.laws.Trims.{trim_end-whole, trim_start-spaces, trim_start-whole}
use Rattle.sip_build.proofs.laws.ViaPieces.{is_no_mark, no_mark-class, no_mark-first}

space-no_mark : (b : ℕ) → is_space b ≡ true → is_no_mark b ≡ true
space-no_mark b h = no_mark-class is_space refl refl b h

-- ---- space behind a text

all-back : (bs : List ℕ) → list_all is_space bs ≡ true → list_all is_space (reverse bs) ≡ true
all-back [] h = refl
all-back (b ∷ bs) h =
    let each = and_parts (is_space b) (list_all is_space bs) h in
    grind (arith, common_steps, reverse-append (b ∷ []) bs, list_all-append is_space (reverse bs) (b ∷ []), and_both (list_all is_space (reverse bs)) (list_all is_space (b ∷ [])) (all-back bs each.1) (and_both (is_space b) true each.0 refl))

end-longer : (bs gap : List ℕ) → list_all is_space gap ≡ true → trim_end (bs ++ gap) ≡ trim_end bs
end-longer bs gap h = grind (arith, common_steps, trim_end-reverse, trim_start-spaces, all-back)

one-space : (b : ℕ) (bs : List ℕ) → is_space b ≡ true → trim_start (b ∷ bs) ≡ trim_start bs
one-space b bs h = trim_start-spaces (b ∷ []) bs (and_both (is_space b) true h refl)

-- the front of a text with space behind it
abbrev Fronts : List ℕ → List ℕ → Type 0
Fronts bs gap = (trim_start (bs ++ gap) ≡ trim_start bs ++ gap) ⊎ (trim_start (bs ++ gap) ≡ trim_start bs)

start-longer : (bs gap : List ℕ) → list_all is_space gap ≡ true → Fronts bs gap
start-longer [] gap h = inr (ap trim_start (sym (append-nil gap)) ∙ trim_start-spaces gap [] h)
start-longer (b ∷ bs) gap h = grind (arith, one-space, start-longer bs gap h)

trim-longer : (bs gap : List ℕ) → list_all is_space gap ≡ true → trim (bs ++ gap) ≡ trim bs
trim-longer bs gap h = grind (arith, start-longer, end-longer)

-- the last piece is longer
abbrev longer : List ℕ → List (List ℕ) → List (List ℕ)
longer gap [] = []
longer gap (p ∷ []) = (p ++ gap) ∷ []
longer gap (p ∷ q ∷ ps) = p ∷ longer gap (q ∷ ps)

onto-longer : (b : ℕ) (gap p : List ℕ) (ps : List (List ℕ)) → onto_first b (longer gap (p ∷ ps)) ≡ longer gap (onto_first b (p ∷ ps))
onto-longer b gap p ps = grind arith

space-piece : (place : ShelterState) (gap : List ℕ) → list_all is_space gap ≡ true → pieces_from Quotes 44 place gap ≡ gap ∷ []
space-piece place [] h = refl
space-piece place (b ∷ gap) h =
    let each = and_parts (is_space b) (list_all is_space gap) h in
    let comma = is-not (eqb b 44) (and_parts (not (eqb b 44)) (not (eqb b 34)) (space-no_mark b each.0)).0 in
    let after = place_after Quotes place b in
    cond-false (is_plain place && eqb b 44) ([] ∷ pieces_from Quotes 44 Plain gap) (onto_first b (pieces_from Quotes 44 after gap)) (ap (λ t. is_plain place && t) comma ∙ never (is_plain place))
    ∙ ap (λ (ps : List (List ℕ)). onto_first b ps) (space-piece after gap each.1)
  where
    never : (t : Bool) → (t && false) ≡ false
    never true = refl
    never false = refl

abbrev front : ShelterState → List ℕ → List ℕ
front place bs = (cut_outside Quotes 44 place bs).0

abbrev rest : ShelterState → List ℕ → List (List ℕ)
rest place bs = pieces_outside_behind Quotes 44 (cut_outside Quotes 44 place bs).1

pieces-longer : (place : ShelterState) (bs gap : List ℕ) → list_all is_space gap ≡ true → pieces_from Quotes 44 place (bs ++ gap) ≡ longer gap (pieces_from Quotes 44 place bs)
pieces-longer place [] gap h = space-piece place gap h
pieces-longer place (b ∷ bs) gap h =
    let after = place_after Quotes place b in
    grind (arith, common_steps, pieces_from-cut Quotes 44 Plain bs, pieces_from-cut Quotes 44 after bs, pieces-longer Plain bs gap h, pieces-longer after bs gap h, cases_Bool, cond-true, cond-false, onto-longer)

trimmed-longer : (gap : List ℕ) (ps : List (List ℕ)) → list_all is_space gap ≡ true → map trim (longer gap ps) ≡ map trim ps
trimmed-longer gap [] h = refl
trimmed-longer gap (p ∷ []) h = ap (λ (x : List ℕ). x ∷ []) (trim-longer p gap h)
trimmed-longer gap (p ∷ q ∷ ps) h = ap (λ (xs : List (List ℕ)). trim p ∷ xs) (trimmed-longer gap (q ∷ ps) h)

-- ---- space before a text

values-behind : (gap bs : List ℕ) → list_all is_space gap ≡ true → values_in (gap ++ bs) ≡ values_in bs
values-behind [] bs h = refl
values-behind (b ∷ gap) bs h =
    let each = and_parts (is_space b) (list_all is_space gap) h in
    grind (arith, common_steps, space-no_mark b each.0, values-behind gap bs each.1, pieces_from-cut, no_mark-first, one-space)

-- ---- a text without the space round it

pub values-trimmed : (text : List ℕ) → values_in (trim text) ≡ values_in text
values-trimmed text = grind (arith, common_steps, trim_start-whole text, trim_end-whole (trim_start text), values-behind, pieces-longer, trimmed-longer)
