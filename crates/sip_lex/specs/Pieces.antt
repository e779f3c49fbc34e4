-- A text as the pieces between its marks.
use Rattle.std.specs.Prelude.{ℕ, List, [], Option, Some, None}
use Rattle.std.specs.List.{slice_split}
use Rattle.sip_lex.specs.Cut.{is}

-- what stands between the marks: one piece more than there are marks
abbrev pub pieces : ℕ → List ℕ → List (List ℕ)
pieces mark bs = slice_split (is mark) bs

-- the pieces of what stands behind a mark, if anything does
abbrev pub pieces_behind : ℕ → Option (List ℕ) → List (List ℕ)
pieces_behind mark None = []
pieces_behind mark (Some bs) = pieces mark bs
