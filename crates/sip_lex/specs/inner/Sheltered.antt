-- Marks outside quotes and angle brackets (RFC 3261 sections 20.10 and 25.1).
-- Here: what no public contract reaches.
use Rattle.std.specs.Prelude.{ℕ, ◌+◌, ◌&&◌, List, [], ◌∷◌, ◌==◌, if◌then◌else◌}
use Rattle.sip_lex.specs.declared.sheltered.Shelter.{Shelter}
use Rattle.sip_lex.specs.declared.sheltered.ShelterState.{ShelterState}
use Rattle.sip_lex.specs.Sheltered.{is_plain, place_after}

abbrev pub outside_len : Shelter → ℕ → ShelterState → List ℕ → ℕ
outside_len shelter mark place [] = 0
outside_len shelter mark place (b ∷ bs) = if is_plain place && b == mark then 0 else 1 + outside_len shelter mark (place_after shelter place b) bs
