-- A whole listing: its lines in their order, each ended by LF, and what they stand for.
use Rattle.std.specs.Prelude.{◌-◌, ◌==◌, ℕ, List, [], ◌∷◌, ◌++◌, map, Option, Some, None, Result, Ok, Err, option_and_then, if◌then◌else◌}
use Rattle.std.specs.Option.{option_map}
use Rattle.std.specs.List.{slice_split}
use Rattle.sip_lex.specs.Cut.{is}
use Rattle.fork_model.specs.Table.{Rules}
use Rattle.fork_rank.specs.LineByLine as texts
use Rattle.fork_rank.specs.LineByLine.{lines_from}
use Rattle.fork_rank.specs.Pieces.{is_empty}
use Rattle.fork_rank.specs.RuleLines.{usual_rules}
use Rattle.fork_listing.specs.declared.line.Version.{Version}
use Rattle.fork_listing.specs.declared.line.Version.TheVariants.{First, Second, Third}
use Rattle.fork_listing.specs.declared.line.ListedTarget.{ListedTarget}
use Rattle.fork_listing.specs.declared.line.Ranked.{Ranked}
use Rattle.fork_listing.specs.declared.line.Final.{Final}
use Rattle.fork_listing.specs.declared.draft.ListingPhase.{ListingPhase}
use Rattle.fork_listing.specs.declared.draft.ListingPhase.TheVariants.{AtFork, AtPrefer, AtDepth, AtTargets, AtRanks, AtEnd}
use Rattle.fork_listing.specs.Line.{Line, ForkLine, PreferLine, DepthLine, TargetLine, RankLine, FinalLine, line_text}
use Rattle.fork_listing.specs.Reading.{read_line}

pub record Listing : Type 0 where
  pub version : Version
  pub count : ℕ
  pub rules : Rules
  pub targets : List ListedTarget
  pub ranks : List Ranked
  pub last : Final

-- the first version is silent about the rules, the second about the depth: what is not said is usual
abbrev pub rule_lines : Version → Rules → List Line
rule_lines First rules = []
rule_lines Second rules = PreferLine rules.preferred ∷ []
rule_lines Third rules = PreferLine rules.preferred ∷ DepthLine rules.depth ∷ []

-- the lines of a listing
abbrev pub lines_of : Listing → List Line
lines_of l =
    ForkLine l.version l.count
    ∷ (rule_lines l.version l.rules ++ (map TargetLine l.targets ++ (map RankLine l.ranks ++ FinalLine l.last ∷ [])))

abbrev pub lines_text : List Line → List ℕ
lines_text lines = texts.lines_text line_text lines

-- how it is spelled
abbrev pub listing_text : Listing → List ℕ
listing_text l = lines_text (lines_of l)

abbrev pub targets_due : ℕ → ListingPhase
targets_due count = if count == 0 then AtRanks else AtTargets count

-- which line is due in which phase, and the phase behind it
abbrev pub phase_after : ListingPhase → Line → Option ListingPhase
phase_after AtFork (ForkLine First count) = Some (targets_due count)
phase_after AtFork (ForkLine version count) = Some (AtPrefer version count)
phase_after (AtPrefer Second count) (PreferLine statuses) = Some (targets_due count)
phase_after (AtPrefer version count) (PreferLine statuses) = Some (AtDepth count)
phase_after (AtDepth count) (DepthLine depth) = Some (targets_due count)
phase_after (AtTargets count) (TargetLine target) = Some (targets_due (count - 1))
phase_after AtRanks (RankLine ranked) = Some AtRanks
phase_after AtRanks (FinalLine last) = Some (AtEnd last)
phase_after _ _ = None

-- the lines read so far
pub record Draft : Type 0 where
  pub phase : ListingPhase
  pub version : Version
  pub count : ℕ
  pub rules : Rules
  pub targets : List ListedTarget
  pub ranks : List Ranked

abbrev pub no_draft : Draft
no_draft = record { phase = AtFork; version = First; count = 0; rules = usual_rules; targets = []; ranks = [] }

-- what a line adds
abbrev pub with_line : Draft → Line → Draft
with_line draft (ForkLine version count) = record draft { version = version; count = count }
with_line draft (PreferLine statuses) = record draft { rules = record draft.rules { preferred = statuses } }
with_line draft (DepthLine depth) = record draft { rules = record draft.rules { depth = depth } }
with_line draft (TargetLine target) = record draft { targets = draft.targets ++ target ∷ [] }
with_line draft (RankLine ranked) = record draft { ranks = draft.ranks ++ ranked ∷ [] }
with_line draft (FinalLine last) = draft

abbrev pub in_phase : Draft → ListingPhase → Draft
in_phase draft phase = record draft { phase = phase }

abbrev pub drafted_line : Draft → Line → Option Draft
drafted_line draft line = option_map (in_phase (with_line draft line)) (phase_after draft.phase line)

-- with one more line, where it is one and is due
abbrev pub drafted : Draft → List ℕ → Option Draft
drafted draft text = option_and_then (drafted_line draft) (read_line text)

abbrev pub listing_in : Draft → ListingPhase → Option Listing
listing_in draft (AtEnd last) = Some (record { version = draft.version; count = draft.count; rules = draft.rules; targets = draft.targets; ranks = draft.ranks; last = last })
listing_in draft _ = None

abbrev pub or_line : ℕ → Option Listing → Result Listing ℕ
or_line number None = Err number
or_line number (Some listing) = Ok listing

-- behind the last LF nothing stands
abbrev pub finished_draft : ℕ → Draft → List ℕ → Result Listing ℕ
finished_draft number draft rest = if is_empty rest then or_line number (listing_in draft draft.phase) else Err number

-- the lines from this number on, and what stands behind the last LF
abbrev pub read_from : ℕ → Draft → List (List ℕ) → Result Listing ℕ
read_from number draft lines = lines_from drafted finished_draft number draft lines

-- the listing, or the number of the first line that is not of the form due in its place; a line that is missing has
-- the number that it would have
unfoldable pub read_listing : List ℕ → Result Listing ℕ
read_listing text = read_from 1 no_draft (slice_split (is 10) text)
