-- The pieces of a text between its marks, one by one.
use Rattle.sip_route.proofs.Common.{◌≡◌, ℕ, true, false, cond, eqb, List, [], ◌∷◌, Option, Some, refl, sym, ap, ◌∙◌, ◌&&◌, Bor, onto_first, option_copied, QuotesAndAngles, ShelterState, Plain, pieces_from, cut_outside, is_plain, place_after, values_in}
use Rattle.sip_route.proofs.Common.{values_behind}
use Rattle.sip_lex.specs.declared.sheltered.Shelter.{Shelter}
use Rattle.sip_lex.specs.Cut.{seen_cut}
use Rattle.sip_lex.specs.Outside.{pieces_outside, pieces_outside_behind}
use Rattle.sip_lex.proofs.laws.OutsideSplits.{onto-cut}

abbrev Cut : Type 0
Cut = List ℕ × Option (List ℕ)

abbrev of_cut : Shelter → ℕ → Cut → List (List ℕ)
of_cut shelter mark c = c.0 ∷ pieces_outside_behind shelter mark c.1

-- the first piece, and the others
pub pieces_from-cut : (shelter : Shelter) (mark : ℕ) (place : ShelterState) (bs : List ℕ) → pieces_from shelter mark place bs ≡ of_cut shelter mark (cut_outside shelter mark place bs)
pieces_from-cut shelter mark place [] = refl
pieces_from-cut shelter mark place (b ∷ bs) =
    let later = place_after shelter place b in
    elim (is_plain place && eqb b mark) as (λ t. cond {A = List (List ℕ)} t ([] ∷ pieces_outside shelter mark bs) (onto_first b (pieces_from shelter mark later bs)) ≡ of_cut shelter mark (cond {A = Cut} t ([], Some bs) (b ∷ (cut_outside shelter mark later bs).0, (cut_outside shelter mark later bs).1))) [
      | true ↦ refl
      | false ↦ ap (onto_first b) (pieces_from-cut shelter mark later bs) ∙ onto-cut shelter mark b (cut_outside shelter mark later bs)
    ]

pub next_value : (text : List ℕ) (r : Bor (List ℕ) × Option (Bor (List ℕ))) → seen_cut r ≡ cut_outside QuotesAndAngles 44 Plain text → values_in text ≡ r.0.now ∷ values_behind (option_copied r.1)
next_value text r e = pieces_from-cut QuotesAndAngles 44 Plain text ∙ sym (ap (of_cut QuotesAndAngles 44) e)
