-- The 4xx statuses that go first among stored answers: a choice that the proxy is given (RFC 3261 section 16.7
-- step 6).
use Rattle.std.specs.Prelude.{◌≤◌, ◌<◌, ℕ, All, List, [], ◌∷◌, length}
use Rattle.std.specs.List.Sorted.{IsStrictlyIncreasing}

-- no list of preferred statuses is longer
abbrev pub most_preferred : ℕ
most_preferred = 16

-- a list of statuses that may be preferred
pub record IsPreferredList (statuses : List ℕ) : Type 0 where
  pub few : length statuses ≤ most_preferred
  pub client_errors : All (λ status. (400 ≤ status) × (status < 500)) statuses
  pub rising : IsStrictlyIncreasing statuses

-- those whose answers tell the caller how to repeat the request
abbrev pub usual_preferred : List ℕ
usual_preferred = 401 ∷ 407 ∷ 415 ∷ 420 ∷ 484 ∷ []
