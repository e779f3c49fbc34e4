-- A text as the pieces between its marks outside quotes and angle brackets.
use Rattle.std.specs.Prelude.{ℕ, ◌&&◌, List, [], ◌∷◌, Option, Some, None, ◌==◌, if◌then◌else◌}
use Rattle.std.specs.List.{onto_first}
use Rattle.sip_lex.specs.declared.sheltered.Shelter.{Shelter}
use Rattle.sip_lex.specs.declared.sheltered.ShelterState.{ShelterState}
use Rattle.sip_lex.specs.declared.sheltered.ShelterState.TheVariants.{Plain}
use Rattle.sip_lex.specs.Sheltered.{is_plain, place_after}

-- what stands between the marks in the plain text, from a byte at this place on
abbrev pub pieces_from : Shelter → ℕ → ShelterState → List ℕ → List (List ℕ)
pieces_from shelter mark place [] = [] ∷ []
pieces_from shelter mark place (b ∷ bs) = if is_plain place && b == mark then [] ∷ pieces_from shelter mark Plain bs else onto_first b (pieces_from shelter mark (place_after shelter place b) bs)

abbrev pub pieces_outside : Shelter → ℕ → List ℕ → List (List ℕ)
pieces_outside shelter mark bs = pieces_from shelter mark Plain bs

-- the pieces of what stands behind a mark, if anything does
abbrev pub pieces_outside_behind : Shelter → ℕ → Option (List ℕ) → List (List ℕ)
pieces_outside_behind shelter mark None = []
pieces_outside_behind shelter mark (Some bs) = pieces_outside shelter mark bs
