-- The stored answers of a listing in order of rank, and the answer that goes up (RFC 3261 section 16.7 step 6).
use Rattle.std.specs.Prelude.{◌≡◌, ℕ, zero, suc, List, [], Option, Some, None, map, slice_get, option_and_then}
use Rattle.fork_model.specs.Table as table
use Rattle.fork_model.specs.Table.{Row, Rules}
use Rattle.fork_model.specs.Rank.{Score, Before}
use Rattle.fork_model.specs.Choice.{Choice, Best, Only503, NoAnswer408, IsChoice, status_sent}
use Rattle.fork_tree.specs.States.{end_of}
use Rattle.fork_tree.specs.declared.row.End.{End}
use Rattle.fork_tree.specs.declared.row.End.TheVariants.{Stored, Taken, Silent, Never, Accepted}
use Rattle.fork_listing.specs.declared.line.ListedTarget.{ListedTarget}
use Rattle.fork_listing.specs.declared.line.Ranked.{Ranked}
use Rattle.fork_listing.specs.declared.line.Final.{Final}

-- the row that a line tells of; of its key, place and group, of contacts and challenges it tells nothing
abbrev pub row_of : ListedTarget → Row
row_of target = record { key = []; q = target.q; place = 0; parent = target.parent; group = 0; state = table.Ended (end_of target.end [] []) }

abbrev pub rows_of : List ListedTarget → List Row
rows_of targets = map row_of targets

abbrev pub score_of : Ranked → Score
score_of ranked = record { status = ranked.status; arrival = ranked.arrival }

abbrev pub RanksBehind : Rules → Option Ranked → Ranked → Type 0
RanksBehind rules None ranked = Unit {0}
RanksBehind rules (Some before) ranked = Before rules (score_of before) (score_of ranked)

abbrev pub rank_before : List Ranked → ℕ → Option Ranked
rank_before ranks zero = None
rank_before ranks (suc k) = slice_get ranks k

-- the score of the answer that a branch has stored
abbrev pub score_in : End → Option Score
score_in (Stored status arrival received) = Some (record { status = status; arrival = arrival })
score_in (Taken arrival) = None
score_in (Silent arrival) = None
score_in Never = None
score_in (Accepted arrival) = None

abbrev pub score_at : List ListedTarget → ℕ → Option Score
score_at targets n = option_and_then (λ (target : ListedTarget). score_in target.end) (slice_get targets n)

-- a line that tells of an answer that its branch has stored, and that ranks behind the line before
pub record IsInOrder (rules : Rules) (targets : List ListedTarget) (ranks : List Ranked) (k : ℕ) (ranked : Ranked) : Type 0 where
  pub stored : score_at targets ranked.number ≡ Some (score_of ranked)
  pub behind : RanksBehind rules (rank_before ranks k) ranked

abbrev pub IsOrdered : Rules → List ListedTarget → List Ranked → ℕ → Type 0
IsOrdered rules targets ranks k = (ranked : Ranked) → slice_get ranks k ≡ Some ranked → IsInOrder rules targets ranks k ranked

-- a stored answer has its line
abbrev pub IsListed : List ListedTarget → List Ranked → ℕ → Type 0
IsListed targets ranks n =
    (score : Score) → score_at targets n ≡ Some score
    → (k : ℕ) × (ranked : Ranked) × (slice_get ranks k ≡ Some ranked) × (ranked.number ≡ n)

-- the line of the answer that goes up
abbrev pub final_of : List Row → Choice → Final
final_of rows (Best n) = record { status = status_sent rows (Best n); number = Some n }
final_of rows (Only503 n) = record { status = 500; number = Some n }
final_of rows NoAnswer408 = record { status = 408; number = None }

abbrev pub IsChosen : Rules → List ListedTarget → Final → Type 0
IsChosen rules targets last = (choice : Choice) × IsChoice rules (rows_of targets) choice × (last ≡ final_of (rows_of targets) choice)

-- the choice is another
abbrev pub IsNotChosen : Rules → List ListedTarget → Final → Type 0
IsNotChosen rules targets last = (choice : Choice) × IsChoice rules (rows_of targets) choice × (last ≡ final_of (rows_of targets) choice → ⊥)
