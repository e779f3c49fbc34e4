-- The walk over Via values, as the values that are left.
use Rattle.std.specs.Prelude.{ℕ, List, map, ◌++◌, Option}
use Rattle.std.specs.List.{flat_map}
use Rattle.sip_lex.specs.declared.sheltered.Shelter.TheVariants.{Quotes}
use Rattle.sip_lex.specs.Bytes.{trim}
use Rattle.sip_lex.specs.Outside.{pieces_outside_behind}
use Rattle.sip_via.specs.TopVia.{values_in}

-- those of what is left of a line
abbrev pub values_behind : Option (List ℕ) → List (List ℕ)
values_behind line = map trim (pieces_outside_behind Quotes 44 line)

-- and those of the lines behind it
abbrev pub values_left : Option (List ℕ) → List (List ℕ) → List (List ℕ)
values_left line lines = values_behind line ++ flat_map values_in lines
