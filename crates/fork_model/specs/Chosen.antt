-- What a context adds to the final answer that goes up (RFC 3261 section 16.7 steps 6 and 7).
use Rattle.std.specs.Prelude.{◌≡◌, ◌&&◌, ℕ, not, true, false, Bool, List, [], Option, Some, None}
use Rattle.fork_model.specs.Table.{Challenge, Row, Table, is_finished, is_succeeded}
use Rattle.fork_model.specs.Rank.{Score}
use Rattle.fork_model.specs.Choice.{Choice, IsChoice, IsFirst}
use Rattle.fork_model.specs.Challenges.{challenge_list}

-- every branch has ended, and none with a 2xx
abbrev pub is_due : List Row → Bool
is_due rows = is_finished rows && not (is_succeeded rows)

-- which answer goes up; none before one is due
abbrev pub IsChosen : Table → Option Choice → Type 0
IsChosen t None = is_due t.rows ≡ false
IsChosen t (Some choice) = (is_due t.rows ≡ true) × IsChoice t.rules t.rows choice

-- row n has a stored answer, and no stored answer ranks before it
abbrev pub HasFirst : Table → ℕ → Type 0
HasFirst t n = (score : Score) × IsFirst t.rules t.rows n score

abbrev pub challenges_added : List Row → Option Choice → List Challenge
challenges_added rows None = []
challenges_added rows (Some choice) = challenge_list rows choice
