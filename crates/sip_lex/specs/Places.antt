-- Places in a text.
use Rattle.std.specs.Prelude.{◌≡◌, ℕ, ◌+◌, ◌≤◌, List, ◌++◌, drop, take}
use Rattle.sip_lex.specs.declared.place.PartPlace.{PartPlace}

-- the part of a text at a place, as far as the text goes
abbrev pub part_at : List ℕ → PartPlace → List ℕ
part_at text place = take place.len (drop place.start text)

-- a place lies within so many bytes
abbrev pub IsWithin : ℕ → PartPlace → Type 0
IsWithin room place = place.start + place.len ≤ room

-- a place in a part of a text, as a place in the text
abbrev pub moved : ℕ → PartPlace → PartPlace
moved by place = record { start = by + place.start; len = place.len }

-- the text ends so
abbrev pub IsEnd : List ℕ → List ℕ → Type 0
IsEnd text end = (front : List ℕ) × (text ≡ front ++ end)
