-- The pieces of a text outside quotes and angle brackets, by cuts and by the whole text.
use Rattle.sip_lex.proofs.Common.{◌≡◌, ℕ, false, eqb, List, [], ◌∷◌, Option, refl, ◌&&◌, flat_map, onto_first, AllByRecursion, cond_both, eqb-true, and_parts, Shelter, ShelterState, Plain, LacksOutside, cut_outside, is_plain, place_after, arith}
use Rattle.sip_lex.proofs.Common.{common_steps}
use Rattle.sip_lex.specs.Outside.{pieces_from, pieces_outside, pieces_outside_behind}
use Rattle.sip_lex.proofs.laws.Splits.{marked, onto}

abbrev Cut : Type 0
Cut = List ℕ × Option (List ℕ)

abbrev of_cut : Shelter → ℕ → Cut → List (List ℕ)
of_cut shelter mark c = c.0 ∷ pieces_outside_behind shelter mark c.1

pub onto-cut : (shelter : Shelter) (mark b : ℕ) (c : Cut) → onto_first b (of_cut shelter mark c) ≡ of_cut shelter mark (b ∷ c.0, c.1)
onto-cut shelter mark b c = grind arith

-- the first piece, and the others
pub pieces_from-cut : (shelter : Shelter) (mark : ℕ) (place : ShelterState) (bs : List ℕ) → pieces_from shelter mark place bs ≡ (cut_outside shelter mark place bs).0 ∷ pieces_outside_behind shelter mark (cut_outside shelter mark place bs).1
pieces_from-cut shelter mark place [] = refl
pieces_from-cut shelter mark place (b ∷ bs) =
    let later = place_after shelter place b in
    grind (arith, common_steps, onto-cut shelter mark b (cut_outside shelter mark later bs), pieces_from-cut shelter mark later bs)

pub pieces_outside-cut : (shelter : Shelter) (mark : ℕ) (bs : List ℕ) → pieces_outside shelter mark bs ≡ (cut_outside shelter mark Plain bs).0 ∷ pieces_outside_behind shelter mark (cut_outside shelter mark Plain bs).1
pieces_outside-cut shelter mark bs = pieces_from-cut shelter mark Plain bs

-- the pieces, each behind a mark, are the text behind one
pub pieces_from_join : (shelter : Shelter) (mark : ℕ) (place : ShelterState) (bs : List ℕ) → flat_map (marked mark) (pieces_from shelter mark place bs) ≡ mark ∷ bs
pieces_from_join shelter mark place [] = refl
pieces_from_join shelter mark place (b ∷ bs) =
    let later = place_after shelter place b in
    grind (arith, common_steps, marked mark, pieces_from_join shelter mark Plain bs, pieces_from_join shelter mark later bs, cond_both, eqb-true, and_parts, onto)

-- the first piece lacks the mark from this place on, the others do from plain text on
abbrev LackFrom : Shelter → ℕ → ShelterState → List (List ℕ) → Type 0
LackFrom shelter mark place [] = Unit {0}
LackFrom shelter mark place (part ∷ parts) = LacksOutside shelter mark place part × AllByRecursion (λ piece. LacksOutside shelter mark Plain piece) parts

all_lack : (shelter : Shelter) (mark : ℕ) (parts : List (List ℕ)) → LackFrom shelter mark Plain parts → AllByRecursion (λ piece. LacksOutside shelter mark Plain piece) parts
all_lack shelter mark parts h = grind arith

onto_lacks : (shelter : Shelter) (mark : ℕ) (place : ShelterState) (b : ℕ) (parts : List (List ℕ)) → (is_plain place && eqb b mark) ≡ false → LackFrom shelter mark (place_after shelter place b) parts → LackFrom shelter mark place (onto_first b parts)
onto_lacks shelter mark place b parts e h = grind arith

lack_from : (shelter : Shelter) (mark : ℕ) (place : ShelterState) (bs : List ℕ) → LackFrom shelter mark place (pieces_from shelter mark place bs)
lack_from shelter mark place [] = (tt, tt)
lack_from shelter mark place (b ∷ bs) =
    let later = place_after shelter place b in
    grind (arith, common_steps, all_lack shelter mark (pieces_outside shelter mark bs) (lack_from shelter mark Plain bs), lack_from shelter mark later bs, cond_both, onto_lacks)

-- each piece lacks the mark outside
pub pieces_outside_lack : (shelter : Shelter) (mark : ℕ) (bs : List ℕ) → AllByRecursion (λ piece. LacksOutside shelter mark Plain piece) (pieces_outside shelter mark bs)
pieces_outside_lack shelter mark bs = all_lack shelter mark (pieces_outside shelter mark bs) (lack_from shelter mark Plain bs)
