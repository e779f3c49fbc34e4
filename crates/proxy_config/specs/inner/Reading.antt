-- Reading a whole configuration, a line after the other.
use Rattle.std.specs.Prelude.{◌≡◌, ◌&&◌, ℕ, Bool, true, false, List, Option, Some, None, Result, Ok, Err, option_and_then, if◌then◌else◌}
use Rattle.std.specs.Option.{option_map}
use Rattle.std.specs.List.{slice_split}
use Rattle.sip_lex.specs.Cut.{is}
use Rattle.fork_rank.specs.LineByLine.{lines_from}
use Rattle.fork_rank.specs.Pieces.{is_empty}
use Rattle.proxy_config.specs.declared.draft.SetupPhase.{SetupPhase}
use Rattle.proxy_config.specs.declared.draft.SetupPhase.TheVariants.{AtOwn, AtInstance, AtDomain, AtPrefer, AtDepth, AtLocations}
use Rattle.proxy_config.specs.Line.{Line, OwnLine, InstanceLine, DomainLine, PreferLine, DepthLine, LocationLine}
use Rattle.proxy_config.specs.LineReading.{read_line}
use Rattle.proxy_config.specs.Parts.{no_setup, with_line}
use Rattle.proxy_config.specs.Setup.{Setup, IsKeptWith}

-- which line may come in which phase, and the phase behind it
abbrev pub phase_after : SetupPhase → Line → Option SetupPhase
phase_after AtOwn (OwnLine own) = Some AtInstance
phase_after AtInstance (InstanceLine instance) = Some AtDomain
phase_after AtDomain (DomainLine host) = Some AtPrefer
phase_after AtPrefer (PreferLine statuses) = Some AtDepth
phase_after AtPrefer (DepthLine depth) = Some AtLocations
phase_after AtDepth (DepthLine depth) = Some AtLocations
phase_after AtPrefer (LocationLine user q uri) = Some AtLocations
phase_after AtDepth (LocationLine user q uri) = Some AtLocations
phase_after AtLocations (LocationLine user q uri) = Some AtLocations
phase_after _ _ = None

-- the lines read so far
pub record Draft : Type 0 where
  pub phase : SetupPhase
  pub setup : Setup

abbrev pub no_draft : Draft
no_draft = record { phase = AtOwn; setup = no_setup }

abbrev pub in_phase : Setup → SetupPhase → Draft
in_phase setup phase = record { phase = phase; setup = setup }

abbrev pub drafted_line : Draft → Line → Option Draft
drafted_line draft line =
    option_and_then (λ phase. option_map (λ setup. in_phase setup phase) (with_line draft.setup line)) (phase_after draft.phase line)

-- with one more line, where it is one and may come
abbrev pub drafted : Draft → List ℕ → Option Draft
drafted draft line = option_and_then (drafted_line draft) (read_line line)

-- the domain was read, and so all that has to be there
abbrev pub is_whole : SetupPhase → Bool
is_whole AtOwn = false
is_whole AtInstance = false
is_whole AtDomain = false
is_whole _ = true

-- behind the last LF nothing stands
abbrev pub finished_draft : ℕ → Draft → List ℕ → Result Setup ℕ
finished_draft number draft rest = if is_empty rest && is_whole draft.phase then Ok draft.setup else Err number

-- a whole draft makes a setup
abbrev pub IsSound : Draft → Type 0
IsSound draft = is_whole draft.phase ≡ true → IsKeptWith draft.setup.streams draft.setup.own draft.setup.domain draft.setup.locations

-- the lines from this number on, and what stands behind the last LF
abbrev pub read_from : ℕ → Draft → List (List ℕ) → Result Setup ℕ
read_from number draft lines = lines_from drafted finished_draft number draft lines

-- the setup, or the number of the first malformed line; a line that is missing has the number it would have
unfoldable pub read_setup : List ℕ → Result Setup ℕ
read_setup text = read_from 1 no_draft (slice_split (is 10) text)
