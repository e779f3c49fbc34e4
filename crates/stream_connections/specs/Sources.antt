-- How many connections each address has that it opened itself.
use Rattle.std.specs.Prelude.{◌≡◌, ℕ, List, unwrap_or, ◌==◌, if◌then◌else◌}
use Rattle.std.specs.BTreeMap.{is_at}
use Rattle.std.specs.Map.{lookup}
use Rattle.std.specs.Ordering.{nat_cmp}

pub record Sources : Type 0 where
  -- no address has more
  pub most : ℕ
  pub counts : List (ℕ × ℕ)

-- an address that is not kept has none
abbrev pub count_of : Sources → ℕ → ℕ
count_of s source = unwrap_or (lookup (is_at (nat_cmp source)) s.counts) 0

-- so many has this address, and each other as many as before
abbrev pub HasNow : Sources → ℕ → ℕ → Sources → Type 0
HasNow old source count new = (new.most ≡ old.most) × ((other : ℕ) → count_of new other ≡ (if source == other then count else count_of old other))

-- each has as many as before
abbrev pub IsSame : Sources → Sources → Type 0
IsSame old new = (new.most ≡ old.most) × ((other : ℕ) → count_of new other ≡ count_of old other)
