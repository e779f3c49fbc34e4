-- Which answer goes up once every branch has ended (RFC 3261 section 16.7 step 6).
use Rattle.std.specs.Prelude.{◌≡◌, ◌≢◌, ℕ, List, Option, Some, None, slice_get}
use Rattle.std.specs.Option.{option_map, option_map_or}
use Rattle.fork_model.specs.Table.{StoredAnswer, Row, Rules, stored_of}
use Rattle.fork_model.specs.Rank.{Score, Before}

-- the answer stored in row n; 500 in place of the 503 stored in row n, where all that is stored is 503; 408
-- where nothing is stored
pub data Choice : Type 0 where
  Best : (n : ℕ) → Choice
  Only503 : (n : ℕ) → Choice
  NoAnswer408 : Choice

abbrev pub score_of : StoredAnswer → Score
score_of answer = record { status = answer.status; arrival = answer.arrival }

abbrev pub stored_at : Option Row → Option StoredAnswer
stored_at None = None
stored_at (Some row) = stored_of row.state

-- row n has a stored answer with this score
abbrev pub HasScore : List Row → ℕ → Score → Type 0
HasScore rows n score = option_map score_of (stored_at (slice_get rows n)) ≡ Some score

-- row n has a stored answer with this score, and no stored answer ranks before it
pub record IsFirst (rules : Rules) (rows : List Row) (n : ℕ) (score : Score) : Type 0 where
  pub stored : HasScore rows n score
  pub first : (m : ℕ) (other : Score) → HasScore rows m other → Before rules other score → ⊥

abbrev pub NoneStored : List Row → Type 0
NoneStored rows = (m : ℕ) (score : Score) → HasScore rows m score → ⊥

abbrev pub IsChoice : Rules → List Row → Choice → Type 0
IsChoice rules rows (Best n) = (score : Score) × IsFirst rules rows n score × (score.status ≢ 503)
IsChoice rules rows (Only503 n) = (score : Score) × IsFirst rules rows n score × (score.status ≡ 503)
IsChoice rules rows NoAnswer408 = NoneStored rows

abbrev pub status_at : Option Row → ℕ
status_at row = option_map_or (λ answer. answer.status) (stored_at row) 408

-- the status that goes up for a choice (an assumed 408 goes up as one that the proxy makes itself)
abbrev pub status_sent : List Row → Choice → ℕ
status_sent rows (Best n) = status_at (slice_get rows n)
status_sent rows (Only503 n) = 500
status_sent rows NoAnswer408 = 408
