-- Each branch stands where the table of places says, is what is found there, and its kept answer is that of its state.
use Rattle.std.specs.Prelude.{◌≡◌, ◌<◌, ◌≤◌, ℕ, List, [], ◌∷◌, length, Option, Some, None}
use Rattle.fork_model.specs.Table.{Rules, most_targets}
use Rattle.fork_model.specs.Rank.{rank_of}
use Rattle.fork_tree.specs.declared.place.NodePlace.{NodePlace}
use Rattle.fork_tree.specs.declared.summary.RankedAnswer.{RankedAnswer}
use Rattle.fork_tree.specs.declared.summary.Summary.{Summary}
use Rattle.fork_tree.specs.declared.row.State.{State}
use Rattle.fork_tree.specs.declared.row.State.TheVariants.{Idle, Trying, Rung, Ended}
use Rattle.fork_tree.specs.declared.row.End.{End}
use Rattle.fork_tree.specs.declared.row.End.TheVariants.{Stored, Taken, Silent, Never, Accepted}
use Rattle.fork_tree.specs.Rows.{Entry, find}
use Rattle.fork_tree.specs.Places.{path_of, IsPlaced, AreOlder}
use Rattle.fork_tree.specs.Summary.{IsSummary}

pub record IsAt (all : List NodePlace) (root : List Entry) (e : Entry) : Type 0 where
  pub known : e.cell.number < length all
  pub path : e.path ≡ path_of all e.cell.number
  pub found : find root (path_of all e.cell.number) ≡ Some e.cell

abbrev pub AreListed : List NodePlace → List Entry → List Entry → Type 0
AreListed all root [] = Unit {0}
AreListed all root (e ∷ es) = IsAt all root e × AreListed all root es

abbrev pub kept_end : Rules → ℕ → End → Option RankedAnswer
kept_end rules n (Stored status arrival received) = Some (record {
  best = record { no = n; status = status; arrival = arrival };
  rank = rank_of rules (record { status = status; arrival = arrival });
})
kept_end rules n (Taken arrival) = None
kept_end rules n (Silent arrival) = None
kept_end rules n Never = None
kept_end rules n (Accepted arrival) = None

-- the stored answer of row n in this state, with its rank
abbrev pub kept_of : Rules → ℕ → State → Option RankedAnswer
kept_of rules n Idle = None
kept_of rules n Trying = None
kept_of rules n (Rung cancelled) = None
kept_of rules n (Ended end) = kept_end rules n end

abbrev pub AreRanked : Rules → List Entry → Type 0
AreRanked rules [] = Unit {0}
AreRanked rules (e ∷ es) =
    (e.cell.standing.answer ≡ kept_of rules e.cell.number e.cell.standing.state) × AreRanked rules es

-- what holds of every tree: its table of places leads to each row's node, and what it keeps is that of all rows
pub record IsTree (rules : Rules) (all : List NodePlace) (root : List Entry) (t : Summary) : Type 0 where
  pub older : AreOlder all
  pub placed : IsPlaced all root
  pub listed : AreListed all root root
  pub ranked : AreRanked rules root
  pub summary : IsSummary root t
  pub sized : length root ≡ length all
  pub few : length all ≤ most_targets
