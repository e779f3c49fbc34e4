-- Marks outside quotes and angle brackets (RFC 3261 sections 20.10 and 25.1).
use Rattle.std.specs.Prelude.{◌≡◌, ℕ, Bool, true, false, ◌&&◌, List, [], ◌∷◌, fold, Option, Some, None, ◌==◌, if◌then◌else◌}
use Rattle.sip_lex.specs.declared.sheltered.Shelter.{Shelter}
use Rattle.sip_lex.specs.declared.sheltered.Shelter.TheVariants.{Quotes, QuotesAndAngles}
use Rattle.sip_lex.specs.declared.sheltered.ShelterState.{ShelterState}
use Rattle.sip_lex.specs.declared.sheltered.ShelterState.TheVariants.{Plain, Quoted, Escaped, Angled}

abbrev pub has_angles : Shelter → Bool
has_angles Quotes = false
has_angles QuotesAndAngles = true

abbrev pub is_plain : ShelterState → Bool
is_plain Plain = true
is_plain _ = false

-- where the byte behind this one stands
abbrev pub place_after : Shelter → ShelterState → ℕ → ShelterState
place_after shelter Plain b = if b == 34 then Quoted else (if b == 60 && has_angles shelter then Angled else Plain)
place_after shelter Quoted b = if b == 92 then Escaped else (if b == 34 then Plain else Quoted)
place_after shelter Escaped b = Quoted
place_after shelter Angled b = if b == 62 then Plain else Angled

-- what stands before the first mark in the plain text, and what stands after it, if there is one
abbrev pub cut_outside : Shelter → ℕ → ShelterState → List ℕ → List ℕ × Option (List ℕ)
cut_outside shelter mark place [] = ([], None)
cut_outside shelter mark place (b ∷ bs) =
    let after = cut_outside shelter mark (place_after shelter place b) bs in
    if is_plain place && b == mark then ([], Some bs) else (b ∷ after.0, after.1)

-- where the byte behind a text stands
abbrev pub end_place : Shelter → ShelterState → List ℕ → ShelterState
end_place shelter place bs = fold (place_after shelter) place bs

-- each quote and bracket that opens is closed
abbrev pub is_closed : Shelter → List ℕ → Bool
is_closed shelter bs = is_plain (end_place shelter Plain bs)

-- the mark stands nowhere in the plain text
abbrev pub LacksOutside : Shelter → ℕ → ShelterState → List ℕ → Type 0
LacksOutside shelter mark place [] = Unit {0}
LacksOutside shelter mark place (b ∷ bs) = (is_plain place && b == mark ≡ false) × LacksOutside shelter mark (place_after shelter place b) bs
