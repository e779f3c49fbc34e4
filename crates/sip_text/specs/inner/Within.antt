-- Places that lie within a text.
use Rattle.std.specs.Prelude.{ℕ, List}
use Rattle.std.specs.List.{AllByRecursion}
use Rattle.sip_text.specs.declared.place.LinePlaces.{LinePlaces}
use Rattle.sip_lex.specs.Places.{IsWithin}

abbrev pub IsLineWithin : ℕ → LinePlaces → Type 0
IsLineWithin room line = IsWithin room line.name × IsWithin room line.value

abbrev pub AreLinesWithin : ℕ → List LinePlaces → Type 0
AreLinesWithin room lines = AllByRecursion (IsLineWithin room) lines
