-- What a text tells that the check accepts (RFC 3261 section 16.7 step 6).
use Rattle.std.specs.Prelude.{◌≡◌, ◌≢◌, ◌<◌, ◌⊎◌, ◌↔◌, ℕ, List, [], Option, Some, None, Ok, slice_get}
use Rattle.fork_model.specs.Table.{Table}
use Rattle.fork_model.specs.Rank.{Score, Before}
use Rattle.fork_model.specs.Choice.{Choice, Best, Only503, NoAnswer408, HasScore, IsFirst, IsChoice, NoneStored}
use Rattle.fork_model.specs.OneReply.{AreArrivals}
use Rattle.fork_listing.specs.declared.refusal.Verdict.{Verdict}
use Rattle.fork_listing.specs.declared.line.Ranked.{Ranked}
use Rattle.fork_listing.specs.Ranks.{rows_of, score_of}
use Rattle.fork_listing.specs.Ranking.{IsRanking}
use Rattle.fork_listing.specs.Listed.{targets_of}
use Rattle.fork_listing.specs.Text.{Listing, read_listing}
use Rattle.fork_listing.specs.Checking.{IsRight, IsChecked, verdict_of}

-- the answers listed are those stored
abbrev pub ListedAreStored : Listing → Type 0
ListedAreStored l =
    (ranked : Ranked)
    → ((k : ℕ) × (slice_get l.ranks k ≡ Some ranked)) ↔ HasScore (rows_of l.targets) ranked.number (score_of ranked)

-- each ranks before those behind it
abbrev pub AreRanked : Listing → Type 0
AreRanked l = (j k : ℕ) (a b : Ranked) → j < k → slice_get l.ranks j ≡ Some a → slice_get l.ranks k ≡ Some b → Before l.rules (score_of a) (score_of b)

-- the last line tells the answer that none stored ranks before, or a 500 in its place where it is a 503, or a 408 where
-- nothing is stored
abbrev pub FinalIsFirst : Listing → Type 0
FinalIsFirst l =
    ((n : ℕ) × (score : Score) × IsFirst l.rules (rows_of l.targets) n score × (score.status ≢ 503)
    × (l.last ≡ record { status = score.status; number = Some n }))
    ⊎ (((n : ℕ) × (score : Score) × IsFirst l.rules (rows_of l.targets) n score × (score.status ≡ 503)
    × (l.last ≡ record { status = 500; number = Some n }))
    ⊎ (NoneStored (rows_of l.targets) × (l.last ≡ record { status = 408; number = None })))

-- the first rank line tells of this row; there is no rank line where it is of none
abbrev pub FirstLineIs : List Ranked → Option ℕ → Type 0
FirstLineIs ranks None = ranks ≡ []
FirstLineIs ranks (Some n) = (ranked : Ranked) × (slice_get ranks 0 ≡ Some ranked) × (ranked.number ≡ n)

abbrev pub TellsTheChoice : Listing → Type 0
TellsTheChoice l = ListedAreStored l × AreRanked l × FinalIsFirst l × FirstLineIs l.ranks l.last.number

abbrev pub RightTellsTheChoice : Type 0
RightTellsTheChoice = (l : Listing) → IsRight l → TellsTheChoice l

-- what is accepted is a listing, and tells the choice among what is stored there
abbrev pub AcceptedTellsTheChoice : Type 0
AcceptedTellsTheChoice =
    (text : List ℕ) (verdict : Verdict)
    → IsChecked (read_listing text) (Ok verdict)
    → (l : Listing) × (read_listing text ≡ Ok l) × (verdict ≡ verdict_of l) × TellsTheChoice l

-- the row whose stored answer is the choice
abbrev pub row_chosen : Choice → Option ℕ
row_chosen (Best n) = Some n
row_chosen (Only503 n) = Some n
row_chosen NoAnswer408 = None

-- of a table whose stored answers arrived apart, as those of every history did, all that is stored is listed in order of
-- rank with the choice first
abbrev pub TheChoiceIsFirst : Type 0
TheChoiceIsFirst =
    (t : Table) (at : ℕ) (ranks : List Ranked) (choice : Choice)
    → AreArrivals t.rows at
    → IsRanking t.rules (targets_of t.rows) ranks
    → IsChoice t.rules t.rows choice
    → FirstLineIs ranks (row_chosen choice)
