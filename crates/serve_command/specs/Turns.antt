-- For how many turns the arguments ask to serve.
use Rattle.std.specs.Prelude.{ℕ, suc, zero, List, [], ◌∷◌, bytes_eq, codes, Option, Some, None, if◌then◌else◌}
use Rattle.sip_lex.specs.Number.{plain_number_within}

abbrev pub most_turns : ℕ
most_turns = 1000000

-- at least one
abbrev pub some_turns : Option ℕ → Option ℕ
some_turns None = None
some_turns (Some zero) = None
some_turns (Some (suc n)) = Some (suc n)

abbrev pub turns_of : List ℕ → Option ℕ
turns_of digits = some_turns (plain_number_within most_turns digits)

-- the program's own name comes first, then the word `serve` and a number
abbrev pub turns_asked : List (List ℕ) → Option ℕ
turns_asked [] = None
turns_asked (name ∷ []) = None
turns_asked (name ∷ word ∷ []) = None
turns_asked (name ∷ word ∷ turns ∷ []) = if bytes_eq word (codes "serve") then turns_of turns else None
turns_asked (name ∷ word ∷ turns ∷ other ∷ words) = None
