-- How a list of preferred statuses lies in `most_preferred` places.
-- Here: what no public contract reaches.
use Rattle.std.specs.Prelude.{◌≡◌, ◌-◌, ℕ, List, ◌++◌, length, take, replicate}
use Rattle.std.proofs.Common.{arith, ap, sym, ◌∙◌}
use Rattle.std.proofs.lemmas.List.{length-take-le, take-append-drop}
use Rattle.fork_rank.specs.Preferred.{most_preferred}
use Rattle.fork_rank.specs.Padding.{IsPadded}

-- the list, with zeros behind it
abbrev pub padded : List ℕ → List ℕ
padded statuses = statuses ++ replicate (most_preferred - length statuses) 0

-- so the list alone gives the places back
pub length-kept : (codes : List ℕ) (count : ℕ) → IsPadded codes count → length (take count codes) ≡ count
length-kept codes count fits = length-take-le count codes (omega arith)

pub padded-kept : (codes : List ℕ) (count : ℕ) → IsPadded codes count → padded (take count codes) ≡ codes
padded-kept codes count fits =
    ap (λ n. take count codes ++ replicate (most_preferred - n) 0) (length-kept codes count fits)
    ∙ ap (λ rest. take count codes ++ rest) (sym fits.zeros)
    ∙ take-append-drop count codes
