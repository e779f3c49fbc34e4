-- Fields of a line: words are separated by one space, numbers are decimal without leading zeros.
use Rattle.std.specs.Prelude.{◌&&◌, ℕ, nat_le, Bool, List, ◌∷◌, ◌++◌, Option, Some, None, option_and_then, if◌then◌else◌}
use Rattle.std.specs.Borrow.{Bor}
use Rattle.std.specs.Option.{option_map}
use Rattle.std.specs.Fmt.{decimal}
pub use Rattle.fork_model.specs.Range.{most_q}
use Rattle.sip_lex.specs.Cut.{cut, is}
use Rattle.sip_lex.specs.Number.{plain_number_within}

-- the number of a branch
abbrev pub most_number : ℕ
most_number = 65535

-- a byte that shows
abbrev pub is_visible : ℕ → Bool
is_visible b = nat_le 33 b && nat_le b 126

-- what is read before the first space, and what stands behind that
module _ {X : Type 0} where
  abbrev pub before_cut : (List ℕ → Option X) → List ℕ × Option (List ℕ) → Option (X × List ℕ)
  before_cut read (front, None) = None
  before_cut read (front, Some rest) = option_map (λ x. (x, rest)) (read front)

  abbrev pub before : (List ℕ → Option X) → List ℕ → Option (X × List ℕ)
  before read text = before_cut read (cut (is 32) text)

  -- the same of a text in memory
  abbrev pub seen_before : Option (X × Bor (List ℕ)) → Option (X × List ℕ)
  seen_before None = None
  seen_before (Some p) = Some (p.0, p.1.now)

-- a number, a space, a text: how it is spelled, and how it is read
abbrev pub numbered_text : ℕ → List ℕ → List ℕ
numbered_text n text = decimal n ++ 32 ∷ text

abbrev pub number_before : ℕ → List ℕ → Option (ℕ × List ℕ)
number_before most text = before (plain_number_within most) text

-- a number of a range
abbrev pub at_least : ℕ → ℕ → Option ℕ
at_least least n = if nat_le least n then Some n else None

abbrev pub number_from : ℕ → ℕ → List ℕ → Option ℕ
number_from least most digits = option_and_then (at_least least) (plain_number_within most digits)
