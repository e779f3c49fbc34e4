-- A whole script: its lines in their order, each ended by LF, and what they stand for.
use Rattle.std.specs.Prelude.{◌&&◌, ℕ, Bool, true, false, List, [], ◌∷◌, ◌++◌, Option, Some, None, Result, Ok, Err, option_and_then, if◌then◌else◌}
use Rattle.std.specs.Option.{option_map}
use Rattle.std.specs.List.{slice_split}
use Rattle.sip_lex.specs.Cut.{is}
use Rattle.fork_model.specs.Table.{Kind, Invite, Rules, Offer, Challenge}
use Rattle.fork_model.specs.Event.{FinalAnswer, Event, Answer}
use Rattle.fork_model.specs.History.{Target}
use Rattle.fork_rank.specs.LineByLine.{lines_from}
use Rattle.fork_rank.specs.Pieces.{is_empty}
use Rattle.fork_rank.specs.RuleLines.{usual_rules}
use Rattle.fork_program.specs.declared.script.ScriptPhase.{ScriptPhase}
use Rattle.fork_program.specs.declared.script.ScriptPhase.TheVariants.{AtKind, AtPrefer, AtDepth, AtTargets, AtEvents, AtAnswer}
use Rattle.fork_program.specs.Line.{Line, KindLine, PreferLine, DepthLine, TargetLine, EventLine, ContactLine, OtherLine, ChallengeLine}
use Rattle.fork_program.specs.Reading.{read_line}

pub record Script : Type 0 where
  pub kind : Kind
  pub rules : Rules
  pub targets : List Target
  pub events : List Event

-- contacts and challenges may come right behind an answer alone
abbrev pub phase_behind : Event → ScriptPhase
phase_behind (Answer n answer) = AtAnswer
phase_behind _ = AtEvents

-- which line may come in which phase, and the phase behind it: the kind, then the preferred statuses and the
-- depth if they are set, then the targets, then the events
abbrev pub phase_after : ScriptPhase → Line → Option ScriptPhase
phase_after AtKind (KindLine kind) = Some AtPrefer
phase_after AtKind _ = None
phase_after AtPrefer (PreferLine statuses) = Some AtDepth
phase_after AtPrefer (DepthLine depth) = Some AtTargets
phase_after AtDepth (DepthLine depth) = Some AtTargets
phase_after AtPrefer (TargetLine q name) = Some AtTargets
phase_after AtDepth (TargetLine q name) = Some AtTargets
phase_after AtTargets (TargetLine q name) = Some AtTargets
phase_after AtAnswer (ContactLine q name) = Some AtAnswer
phase_after AtAnswer (OtherLine q text) = Some AtAnswer
phase_after AtAnswer (ChallengeLine proxy value) = Some AtAnswer
phase_after _ (EventLine event) = Some (phase_behind event)
phase_after _ _ = None

abbrev pub with_contact : Offer → FinalAnswer → FinalAnswer
with_contact offer answer = record answer { offers = answer.offers ++ offer ∷ [] }

abbrev pub with_challenge : Challenge → FinalAnswer → FinalAnswer
with_challenge challenge answer = record answer { challenges = answer.challenges ++ challenge ∷ [] }

abbrev pub answer_changed : (FinalAnswer → FinalAnswer) → Event → Event
answer_changed change (Answer n answer) = Answer n (change answer)
answer_changed change event = event

-- what a line behind an answer says goes to the last event
abbrev pub last_changed : (FinalAnswer → FinalAnswer) → List Event → List Event
last_changed change [] = []
last_changed change (event ∷ []) = answer_changed change event ∷ []
last_changed change (event ∷ next ∷ events) = event ∷ last_changed change (next ∷ events)

-- what a line adds
abbrev pub with_line : Script → Line → Script
with_line script (KindLine kind) = record script { kind = kind }
with_line script (PreferLine statuses) = record script { rules = record script.rules { preferred = statuses } }
with_line script (DepthLine depth) = record script { rules = record script.rules { depth = depth } }
with_line script (TargetLine q name) = record script { targets = script.targets ++ record { key = name; q = q } ∷ [] }
with_line script (EventLine event) = record script { events = script.events ++ event ∷ [] }
with_line script (ContactLine q name) =
    record script { events = last_changed (with_contact (record { text = name; q = q; key = Some name })) script.events }
with_line script (OtherLine q text) =
    record script { events = last_changed (with_contact (record { text = text; q = q; key = None })) script.events }
with_line script (ChallengeLine proxy value) =
    record script { events = last_changed (with_challenge (record { proxy = proxy; value = value })) script.events }

-- a script of no line
abbrev pub no_script : Script
no_script = record { kind = Invite; rules = usual_rules; targets = []; events = [] }

-- the lines read so far
pub record Draft : Type 0 where
  pub phase : ScriptPhase
  pub script : Script

abbrev pub no_draft : Draft
no_draft = record { phase = AtKind; script = no_script }

abbrev pub drafted_line : Draft → Line → Option Draft
drafted_line draft line =
    option_map (λ phase. record { phase = phase; script = with_line draft.script line }) (phase_after draft.phase line)

-- with one more line, where it is one and may come
abbrev pub drafted : Draft → List ℕ → Option Draft
drafted draft line = option_and_then (drafted_line draft) (read_line line)

abbrev pub has_kind : ScriptPhase → Bool
has_kind AtKind = false
has_kind _ = true

-- behind the last LF nothing stands
abbrev pub finished_draft : ℕ → Draft → List ℕ → Result Script ℕ
finished_draft number draft rest = if is_empty rest && has_kind draft.phase then Ok draft.script else Err number

-- the lines from this number on, and what stands behind the last LF
abbrev pub read_from : ℕ → Draft → List (List ℕ) → Result Script ℕ
read_from number draft lines = lines_from drafted finished_draft number draft lines

-- the script, or the number of the first malformed line; a line that is missing has the number it would have
unfoldable pub read_script : List ℕ → Result Script ℕ
read_script text = read_from 1 no_draft (slice_split (is 10) text)
