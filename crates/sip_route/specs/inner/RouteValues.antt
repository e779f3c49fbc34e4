-- The Route values of a request (RFC 3261 sections 7.3.1, 16.6 steps 6 and 7, and 20.34).
-- Here: what no public contract reaches.
use Rattle.std.specs.Prelude.{ℕ, List, ◌++◌, Option}
use Rattle.std.specs.List.{flat_map}
use Rattle.sip_lex.specs.declared.sheltered.Shelter.TheVariants.{QuotesAndAngles}
use Rattle.sip_lex.specs.Outside.{pieces_outside_behind}
use Rattle.sip_route.specs.RouteValues.{values_in}

-- ---- the values that are left behind some, of a line that is begun and of the lines behind it

abbrev pub values_behind : Option (List ℕ) → List (List ℕ)
values_behind line = pieces_outside_behind QuotesAndAngles 44 line

abbrev pub values_left : Option (List ℕ) → List (List ℕ) → List (List ℕ)
values_left line lines = values_behind line ++ flat_map values_in lines
