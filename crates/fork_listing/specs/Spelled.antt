-- Which texts are listings: what may stand in each line, and how many lines there are of each kind.
use Rattle.std.specs.Prelude.{◌≡◌, ◌<◌, ◌≤◌, ◌⊎◌, ◌↔◌, ℕ, Bool, true, false, List, [], Option, Some, None, Ok, Err, ◌++◌, suc, length}
use Rattle.std.specs.List.{AllByRecursion}
use Rattle.fork_rank.specs.Preferred.{IsPreferredList}
use Rattle.fork_model.specs.Table.{Rules, most_targets}
use Rattle.fork_listing.specs.declared.line.Version.{Version}
use Rattle.fork_listing.specs.declared.line.Version.TheVariants.{First, Second, Third}
use Rattle.fork_tree.specs.declared.row.End.{End}
use Rattle.fork_tree.specs.declared.row.End.TheVariants.{Stored, Taken, Silent, Never, Accepted}
use Rattle.fork_listing.specs.declared.line.ListedTarget.{ListedTarget}
use Rattle.fork_listing.specs.declared.line.Ranked.{Ranked}
use Rattle.fork_listing.specs.declared.line.Final.{Final}
use Rattle.fork_listing.specs.Line.{Line, ForkLine, PreferLine, DepthLine, TargetLine, RankLine, FinalLine, line_text, most_arrival, most_listed}
use Rattle.fork_rank.specs.Field.{most_q, most_number}
use Rattle.fork_listing.specs.Text.{Listing, Draft, no_draft, phase_after, listing_in, drafted_line, lines_of, lines_text, listing_text, read_listing}
use Rattle.fork_rank.specs.LineByLine as texts
use Rattle.fork_rank.specs.RuleLines.{ended, usual_rules}

-- a status that may be stored or go up: a 2xx is neither
abbrev pub IsStatus : ℕ → Type 0
IsStatus status = (300 ≤ status) × (status < 700)

-- an answer that the proxy assumes is a 408 or a 503 (RFC 3261 sections 16.8 and 16.9)
abbrev pub IsHow : Bool → ℕ → Type 0
IsHow true status = Unit {0}
IsHow false status = (status ≡ 408) ⊎ (status ≡ 503)

abbrev pub IsEnd : End → Type 0
IsEnd (Stored status arrival received) = IsStatus status × (arrival ≤ most_arrival) × IsHow received status
IsEnd (Taken arrival) = arrival ≤ most_arrival
IsEnd (Silent arrival) = arrival ≤ most_arrival
IsEnd Never = Unit {0}
IsEnd (Accepted arrival) = ⊥

abbrev pub IsNumberOrNone : Option ℕ → Type 0
IsNumberOrNone None = Unit {0}
IsNumberOrNone (Some n) = n ≤ most_number

abbrev pub IsTargetLine : ListedTarget → Type 0
IsTargetLine target =
    (target.number ≤ most_number) × IsNumberOrNone target.parent × (target.q ≤ most_q) × IsEnd target.end

abbrev pub IsRankLine : Ranked → Type 0
IsRankLine ranked = IsStatus ranked.status × (ranked.number ≤ most_number) × (ranked.arrival ≤ most_arrival)

abbrev pub IsFinalLine : Final → Type 0
IsFinalLine last = IsStatus last.status × IsNumberOrNone last.number

-- what the parts of a line have to be
abbrev pub IsLine : Line → Type 0
IsLine (ForkLine version count) = (1 ≤ count) × (count ≤ most_listed version)
IsLine (PreferLine statuses) = IsPreferredList statuses
IsLine (DepthLine depth) = depth ≤ most_targets
IsLine (TargetLine target) = IsTargetLine target
IsLine (RankLine ranked) = IsRankLine ranked
IsLine (FinalLine last) = IsFinalLine last

-- a rule that the version has no line for is the usual one
abbrev pub IsUsualElse : Version → Rules → Type 0
IsUsualElse First rules = rules ≡ usual_rules
IsUsualElse Second rules = rules.depth ≡ most_targets
IsUsualElse Third rules = Unit {0}

pub record IsListing (l : Listing) : Type 0 where
  pub lines : AllByRecursion IsLine (lines_of l)
  pub counted : length l.targets ≡ l.count
  pub usual : IsUsualElse l.version l.rules

-- the draft behind these lines, where each is due
abbrev pub drafted_lines : Draft → List Line → Option Draft
drafted_lines = texts.drafted_lines drafted_line

-- the text spells the listing
abbrev pub IsTextOf : Listing → List ℕ → Type 0
IsTextOf l text = (text ≡ listing_text l) × IsListing l

-- a listing is read of exactly the text that spells it
abbrev pub ReadExactly : Type 0
ReadExactly = (text : List ℕ) (l : Listing) → (read_listing text ≡ Ok l) ↔ IsTextOf l text

-- no line that is due stands at the front of the rest, and a listing does not end there
abbrev pub IsNoneDue : Draft → List ℕ → Type 0
IsNoneDue draft rest =
    ((line : Line) (more : List ℕ) → IsLine line → rest ≡ ended (line_text line) ++ more → phase_after draft.phase line ≡ None)
    × (rest ≡ [] → listing_in draft draft.phase ≡ None)

-- the lines before the one of this number are due, and it is not
pub record IsFirstMalformed (text : List ℕ) (number : ℕ) : Type 0 where
  pub lines : List Line
  pub right : AllByRecursion IsLine lines
  pub draft : Draft
  pub due : drafted_lines no_draft lines ≡ Some draft
  pub rest : List ℕ
  pub whole : text ≡ lines_text lines ++ rest
  pub none : IsNoneDue draft rest
  pub counted : number ≡ suc (length lines)

-- a text that is no listing is refused by the number of its first line that is not of the form due in its place
abbrev pub RefusedByFirst : Type 0
RefusedByFirst = (text : List ℕ) (number : ℕ) → read_listing text ≡ Err number → IsFirstMalformed text number
