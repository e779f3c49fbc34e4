-- The lines of a listing: its version and how many targets it has, the rules, a line for each branch, a line for each
-- stored answer, and the answer that went up (RFC 3261 sections 16.5 to 16.7). Words are separated by one space,
-- numbers are decimal without leading zeros.
use Rattle.std.specs.Prelude.{ℕ, Bool, true, false, List, ◌∷◌, ◌++◌, Option, Some, None, codes}
use Rattle.std.specs.Fmt.{decimal}
use Rattle.fork_model.specs.Table.{most_targets}
use Rattle.fork_rank.specs.RuleLines.{prefer_text, depth_text}
use Rattle.fork_listing.specs.declared.line.Version.{Version}
use Rattle.fork_listing.specs.declared.line.Version.TheVariants.{First, Second, Third}
use Rattle.fork_tree.specs.declared.row.End.{End}
use Rattle.fork_tree.specs.declared.row.End.TheVariants.{Stored, Taken, Silent, Never, Accepted}
use Rattle.fork_listing.specs.declared.line.ListedTarget.{ListedTarget}
use Rattle.fork_listing.specs.declared.line.Ranked.{Ranked}
use Rattle.fork_listing.specs.declared.line.Final.{Final}

pub data Line : Type 0 where
  ForkLine : Version → (count : ℕ) → Line
  PreferLine : (statuses : List ℕ) → Line
  DepthLine : (depth : ℕ) → Line
  TargetLine : ListedTarget → Line
  RankLine : Ranked → Line
  FinalLine : Final → Line

abbrev pub version_text : Version → List ℕ
version_text First = codes "1"
version_text Second = codes "2"
version_text Third = codes "3"

-- a number, or `-` for none
abbrev pub number_text : Option ℕ → List ℕ
number_text None = codes "-"
number_text (Some n) = decimal n

abbrev pub how_text : Bool → List ℕ
how_text true = codes "received"
how_text false = codes "assumed"

abbrev pub end_text : End → List ℕ
end_text (Stored status arrival received) = codes "stored " ++ (decimal status ++ 32 ∷ (decimal arrival ++ 32 ∷ how_text received))
end_text (Taken arrival) = codes "taken " ++ decimal arrival
end_text (Silent arrival) = codes "silent " ++ decimal arrival
end_text Never = codes "never"
-- no line tells of a 2xx
end_text (Accepted arrival) = codes "never"

-- how a line is spelled
abbrev pub line_text : Line → List ℕ
line_text (ForkLine version count) = codes "fork " ++ (version_text version ++ 32 ∷ decimal count)
line_text (PreferLine statuses) = prefer_text statuses
line_text (DepthLine depth) = depth_text depth
line_text (TargetLine target) =
    codes "target "
    ++ (decimal target.number ++ 32 ∷ (number_text target.parent ++ 32 ∷ (decimal target.q ++ 32 ∷ end_text target.end)))
line_text (RankLine ranked) =
    codes "rank " ++ (decimal ranked.status ++ 32 ∷ (decimal ranked.number ++ 32 ∷ decimal ranked.arrival))
line_text (FinalLine last) = codes "final " ++ (decimal last.status ++ 32 ∷ number_text last.number)

abbrev pub most_arrival : ℕ
most_arrival = 4294967295

-- the first two versions have fewer targets
abbrev pub most_listed : Version → ℕ
most_listed First = 64
most_listed Second = 64
most_listed Third = most_targets
