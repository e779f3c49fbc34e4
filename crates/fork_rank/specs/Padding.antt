-- How a list of preferred statuses lies in `most_preferred` places.
use Rattle.std.specs.Prelude.{◌≡◌, ◌≤◌, ◌-◌, ℕ, List, length, take, drop, replicate}
use Rattle.fork_rank.specs.Preferred.{most_preferred, IsPreferredList}

-- the first of `most_preferred` places are a list that may be preferred, the others are zeros
pub record IsPadded (codes : List ℕ) (count : ℕ) : Type 0 where
  pub places : length codes ≡ most_preferred
  pub within : count ≤ most_preferred
  pub sound : IsPreferredList (take count codes)
  pub zeros : drop count codes ≡ replicate (most_preferred - count) 0
