-- The lines of the stored answers, and of the answer that goes up.
use Rattle.std.specs.Prelude.{◌≡◌, ◌==◌, ℕ, IsTrue, List, Option, Some, None, slice_get, if◌then◌else◌}
use Rattle.std.specs.BTreeSet.{BTreeSet, contains}
use Rattle.std.specs.Option.{option_map}
use Rattle.std.specs.Ordering.{nat_cmp}
use Rattle.fork_model.specs.Rank.{Score}
use Rattle.fork_tree.specs.declared.summary.BestRef.{BestRef}
use Rattle.fork_listing.specs.declared.line.ListedTarget.{ListedTarget}
use Rattle.fork_listing.specs.declared.line.Ranked.{Ranked}
use Rattle.fork_listing.specs.declared.line.Final.{Final}
use Rattle.fork_listing.specs.Ranks.{score_in, score_at}

abbrev pub ranked_as : ℕ → Score → Ranked
ranked_as n score = record { status = score.status; number = n; arrival = score.arrival }

-- the line of a branch's stored answer
abbrev pub ranked_in : ListedTarget → Option Ranked
ranked_in target = option_map (ranked_as target.number) (score_in target.end)

-- each line has its number
abbrev pub AreNumbered : List ListedTarget → Type 0
AreNumbered targets = (n : ℕ) (target : ListedTarget) → slice_get targets n ≡ Some target → target.number ≡ n

-- the line of the answer that goes up, where this is the first
abbrev pub final_of_best : Option BestRef → Final
final_of_best None = record { status = 408; number = None }
final_of_best (Some first) =
    if first.status == 503 then record { status = 500; number = Some first.no }
    else record { status = first.status; number = Some first.no }

abbrev pub number_in : Ranked → ℕ
number_in ranked = ranked.number

-- a stored answer is that of a branch with one of these numbers
abbrev pub IsCounted : List ListedTarget → BTreeSet ℕ → ℕ → Type 0
IsCounted targets numbers n = (score : Score) → score_at targets n ≡ Some score → IsTrue (contains nat_cmp numbers n)
