-- Space at the ends of a text is at the ends of its pieces.
use Rattle.sip_route.proofs.Common.{◌≡◌, ℕ, ◌+◌, true, false, cond, eqb, List, [], ◌∷◌, ◌++◌, map, drop, refl, sym, ap, subst, ◌∙◌, inl, inr, arith, ◌&&◌, onto_first, prefix_len, cases_Bool, cond-false, eqb-true, false≢true, QuotesAndAngles, ShelterState}
use Rattle.sip_route.proofs.Common.{Plain, is_space, trim, trim_end, trim_start, pieces_from, is_plain, place_after, values_in, false_from_ne_true, common_steps}
use Rattle.std.proofs.Common.{reverse}
use Rattle.sip_lex.proofs.laws.Trims.{trim_end-reverse}
use Rattle.sip_route.proofs.RoutePieces.{pieces_from-cut}

-- ---- space at the ends of a text

trim_start-space : (b : ℕ) (bs : List ℕ) → is_space b ≡ true → trim_start (b ∷ bs) ≡ trim_start bs
trim_start-space b bs e = grind arith

trim_start-other : (b : ℕ) (bs : List ℕ) → is_space b ≡ false → trim_start (b ∷ bs) ≡ b ∷ bs
trim_start-other b bs e = ap (λ m. drop m (b ∷ bs)) (cond-false (is_space b) (1 + prefix_len is_space bs) 0 e)

trim_end-space : (bs : List ℕ) (b : ℕ) → is_space b ≡ true → trim_end (bs ++ b ∷ []) ≡ trim_end bs
trim_end-space bs b e = grind (arith, common_steps)

trim-first : (b : ℕ) (bs : List ℕ) → is_space b ≡ true → trim (b ∷ bs) ≡ trim bs
trim-first b bs e = ap trim_end (trim_start-space b bs e)

trim-last : (bs : List ℕ) (b : ℕ) → is_space b ≡ true → trim (bs ++ b ∷ []) ≡ trim bs
trim-last [] b e = trim-first b [] e
trim-last (x ∷ xs) b e =
    elim (cases_Bool (is_space x)) [
      | inl space ↦ trim-first x (xs ++ b ∷ []) space ∙ trim-last xs b e ∙ sym (trim-first x xs space)
      | inr other ↦ ap trim_end (trim_start-other x (xs ++ b ∷ []) other) ∙ trim_end-space (x ∷ xs) b e ∙ sym (ap trim_end (trim_start-other x xs other))
    ]

-- ---- a byte behind the last piece

abbrev onto_last : ℕ → List (List ℕ) → List (List ℕ)
onto_last b [] = (b ∷ []) ∷ []
onto_last b (p ∷ []) = (p ++ b ∷ []) ∷ []
onto_last b (p ∷ q ∷ ps) = p ∷ onto_last b (q ∷ ps)

both-ends : (c b : ℕ) (ps : List (List ℕ)) → onto_first c (onto_last b ps) ≡ onto_last b (onto_first c ps)
both-ends c b ps = grind arith

behind-empty : (b : ℕ) (p : List ℕ) (ps all : List (List ℕ)) → all ≡ p ∷ ps → [] ∷ onto_last b all ≡ onto_last b ([] ∷ all)
behind-empty b p ps all e = rw e refl

not_plain : (place : ShelterState) (b : ℕ) → eqb b 44 ≡ false → (is_plain place && eqb b 44) ≡ false
not_plain place b e = rw e (elim (is_plain place) as (λ t. (t && false) ≡ false) [ true ↦ refl | false ↦ refl ])

pieces-last : (place : ShelterState) (bs : List ℕ) (b : ℕ) → eqb b 44 ≡ false → pieces_from QuotesAndAngles 44 place (bs ++ b ∷ []) ≡ onto_last b (pieces_from QuotesAndAngles 44 place bs)
pieces-last place [] b e = cond-false (is_plain place && eqb b 44) ([] ∷ [] ∷ []) ((b ∷ []) ∷ []) (not_plain place b e)
pieces-last place (c ∷ cs) b e =
    let later = place_after QuotesAndAngles place c in
    let plain = pieces_from QuotesAndAngles 44 Plain cs in
    let rest = pieces_from QuotesAndAngles 44 later cs in
    elim (is_plain place && eqb c 44) as (λ t. cond {A = List (List ℕ)} t ([] ∷ pieces_from QuotesAndAngles 44 Plain (cs ++ b ∷ [])) (onto_first c (pieces_from QuotesAndAngles 44 later (cs ++ b ∷ []))) ≡ onto_last b (cond {A = List (List ℕ)} t ([] ∷ plain) (onto_first c rest))) [
      | true ↦ ap (λ (ps : List (List ℕ)). [] ∷ ps) (pieces-last Plain cs b e) ∙ behind-empty b _ _ plain (pieces_from-cut QuotesAndAngles 44 Plain cs)
      | false ↦ ap (onto_first c) (pieces-last later cs b e) ∙ both-ends c b rest
    ]

trim-onto_last : (b : ℕ) (p : List ℕ) (ps : List (List ℕ)) → is_space b ≡ true → map trim (onto_last b (p ∷ ps)) ≡ map trim (p ∷ ps)
trim-onto_last b p [] e = ap (λ (t : List ℕ). t ∷ []) (trim-last p b e)
trim-onto_last b p (q ∷ ps) e = ap (λ (ts : List (List ℕ)). trim p ∷ ts) (trim-onto_last b q ps e)

no_comma : (b : ℕ) → is_space b ≡ true → eqb b 44 ≡ false
no_comma b space = false_from_ne_true (eqb b 44) (λ e. let bad : is_space 44 ≡ true = subst (λ x. is_space x ≡ true) (eqb-true b 44 e) space in absurd (false≢true bad))

-- ---- the values of a line with space at its ends

behind : (bs : List ℕ) (b : ℕ) → is_space b ≡ true → map trim (values_in (bs ++ b ∷ [])) ≡ map trim (values_in bs)
behind bs b e = grind (arith, pieces_from-cut, pieces-last, trim-onto_last)

onto-trim : (b : ℕ) (p : List ℕ) (ps all : List (List ℕ)) → is_space b ≡ true → all ≡ p ∷ ps → map trim (onto_first b all) ≡ map trim all
onto-trim b p ps all e is = rw is (ap (λ (t : List ℕ). t ∷ map trim ps) (trim-first b p e))

before : (b : ℕ) (bs : List ℕ) → is_space b ≡ true → map trim (values_in (b ∷ bs)) ≡ map trim (values_in bs)
before b bs e = grind (arith, pieces_from-cut, onto-trim)

without_front : (bs : List ℕ) → map trim (values_in (trim_start bs)) ≡ map trim (values_in bs)
without_front [] = refl
without_front (b ∷ bs) = grind (arith, trim_start-space, before, without_front bs)

without_back : (rs : List ℕ) → map trim (values_in (reverse (trim_start rs))) ≡ map trim (values_in (reverse rs))
without_back [] = refl
without_back (r ∷ rs) = grind (arith, common_steps, trim_start-space, behind, without_back rs)

-- space at the ends of a line makes no difference
pub values-trim : (bs : List ℕ) → map trim (values_in (trim bs)) ≡ map trim (values_in bs)
values-trim bs = grind (arith, common_steps, trim_end-reverse, without_back, without_front)
