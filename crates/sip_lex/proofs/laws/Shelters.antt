-- Cutting at the first mark outside quotes and angle brackets.
use Rattle.sip_lex.proofs.Common.{◌≡◌, ℕ, ◌+◌, Bool, true, eqb, List, [], ◌∷◌, ◌++◌, take, drop, Option, Some, None, refl, arith, ◌&&◌, Bor, Shelter, ShelterState, Plain, behind, LacksOutside, cut_outside, is_plain, place_after, outside_len, common_steps}
use Rattle.std.specs.Prelude.{OnSome}
use Rattle.sip_lex.specs.Cut.{seen_cut}
use Rattle.sip_lex.specs.Sheltered.{end_place}

abbrev Cut : Type 0
Cut = List ℕ × Option (List ℕ)

-- the front of a cut, and the rest without its mark
abbrev pub without_mark : List ℕ → List ℕ → Cut
without_mark front [] = (front, None)
without_mark front (b ∷ after) = (front, Some after)

abbrev here : Shelter → ℕ → ShelterState → ℕ → Bool
here shelter mark place b = is_plain place && eqb b mark

next : (shelter : Shelter) (mark : ℕ) (place : ShelterState) (b : ℕ) (bs : List ℕ) (n : ℕ) → cut_outside shelter mark place bs ≡ without_mark (take n bs) (drop n bs) → (b ∷ (cut_outside shelter mark place bs).0, (cut_outside shelter mark place bs).1) ≡ without_mark (take (1 + n) (b ∷ bs)) (drop (1 + n) (b ∷ bs))
next shelter mark place b bs n h = grind arith

pub cut_outside-len : (shelter : Shelter) (mark : ℕ) (place : ShelterState) (bs : List ℕ) → cut_outside shelter mark place bs ≡ without_mark (take (outside_len shelter mark place bs) bs) (drop (outside_len shelter mark place bs) bs)
cut_outside-len shelter mark place [] = refl
cut_outside-len shelter mark place (b ∷ bs) =
    let later = place_after shelter place b in
    grind (arith, common_steps, next shelter mark later b bs (outside_len shelter mark later bs) (cut_outside-len shelter mark later bs))

-- a text that is split where the front ends
pub split_is : (shelter : Shelter) (mark : ℕ) (bs front rest : List ℕ) (n : ℕ) → n ≡ outside_len shelter mark Plain bs → front ≡ take n bs → rest ≡ drop n bs → cut_outside shelter mark Plain bs ≡ without_mark front rest
split_is shelter mark bs front rest n at f r = grind (arith, cut_outside-len)

-- the parts, with the mark between them, are the whole
pub cut_outside_joins : (shelter : Shelter) (mark : ℕ) (place : ShelterState) (bs : List ℕ) → bs ≡ (cut_outside shelter mark place bs).0 ++ behind mark (cut_outside shelter mark place bs).1
cut_outside_joins shelter mark place [] = refl
cut_outside_joins shelter mark place (b ∷ bs) = grind (arith, cut_outside_joins shelter mark (place_after shelter place b) bs)

-- the front lacks the mark outside
pub cut_outside_lacks : (shelter : Shelter) (mark : ℕ) (place : ShelterState) (bs : List ℕ) → LacksOutside shelter mark place (cut_outside shelter mark place bs).0
cut_outside_lacks shelter mark place [] = tt
cut_outside_lacks shelter mark place (b ∷ bs) = grind (arith, cut_outside_lacks shelter mark (place_after shelter place b) bs)

pub plain_is : (place : ShelterState) → is_plain place ≡ true → place ≡ Plain
plain_is place e = grind arith

-- the mark stands outside
pub cut_outside_ends : (shelter : Shelter) (mark : ℕ) (place : ShelterState) (bs : List ℕ) → OnSome (cut_outside shelter mark place bs).1 (end_place shelter place (cut_outside shelter mark place bs).0 ≡ Plain)
cut_outside_ends shelter mark place [] = tt
cut_outside_ends shelter mark place (b ∷ bs) = grind (arith, cut_outside_ends shelter mark (place_after shelter place b) bs)

pub stands_outside : (shelter : Shelter) (mark : ℕ) (bs : List ℕ) (r : Bor (List ℕ) × Option (Bor (List ℕ))) → seen_cut r ≡ cut_outside shelter mark Plain bs → OnSome r.1 (end_place shelter Plain r.0.now ≡ Plain)
stands_outside shelter mark bs (front, None) e = tt
stands_outside shelter mark bs (front, Some after) e = grind (arith, common_steps, cut_outside_ends shelter mark Plain bs)

-- what was joined is cut so
pub cut_outside_again : (shelter : Shelter) (mark : ℕ) (place : ShelterState) (front : List ℕ) (back : Option (List ℕ)) → LacksOutside shelter mark place front → OnSome back (end_place shelter place front ≡ Plain) → cut_outside shelter mark place (front ++ behind mark back) ≡ (front, back)
cut_outside_again shelter mark place [] None h ends = refl
cut_outside_again shelter mark place [] (Some back) h ends = grind arith
cut_outside_again shelter mark place (b ∷ front) back h ends = grind (arith, cut_outside_again shelter mark (place_after shelter place b) front back h.1 ends)
