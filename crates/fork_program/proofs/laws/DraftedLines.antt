-- The lines of a spelled script may come one after another, and lines that may are those of one.
use Rattle.fork_program.proofs.Common.{◌≡◌, ℕ, true, List, [], ◌∷◌, ◌++◌, map, Option, Some, None, refl, sym, ap, subst, ◌∙◌, append_assoc, append-nil, option_and_then, option_map, flat_map, AllByRecursion, same_Some, Kind, Invite, Offer, Challenge}
use Rattle.fork_program.proofs.Common.{most_targets, FinalAnswer, Event, Answer, Target, usual_preferred, found_then, all_back, Line, KindLine, PreferLine, DepthLine, TargetLine, EventLine, ContactLine, OtherLine, ChallengeLine, IsLine, Script}
use Rattle.fork_program.proofs.Common.{Draft, no_draft, with_contact, with_challenge, last_changed, drafted_line, has_kind, Detail, ContactDetail, OtherDetail, ChallengeDetail, Told, Spelling, prefer_lines, depth_lines, target_line, detail_line}
use Rattle.fork_program.proofs.Common.{told_lines, lines_of, MayStandBehind, IsSpelling, preferred_said, depth_said, offers_said, challenges_said, event_said, script_of, common_steps, arith, rules}
use Rattle.fork_model.specs.Table.{Rules}
use Rattle.fork_rank.specs.LineByLine as texts
use Rattle.fork_rank.specs.RuleLines.{usual_rules}
use Rattle.fork_rank.proofs.laws.Lines.{all_append, all_front, drafted_append}
use Rattle.fork_program.specs.declared.script.ScriptPhase.{ScriptPhase}
use Rattle.fork_program.specs.declared.script.ScriptPhase.TheVariants.{AtKind, AtPrefer, AtDepth, AtTargets, AtEvents, AtAnswer}
use Rattle.fork_program.specs.Script.{no_script, phase_behind, phase_after, with_line}
use Rattle.fork_program.specs.Malformed.{Begins}
use Rattle.fork_program.proofs.laws.LastAnswer.{last_changed-snoc}

-- the draft behind these lines, where each may come
abbrev pub drafted_lines : Draft → List Line → Option Draft
drafted_lines = texts.drafted_lines drafted_line

-- ---- the lines of a spelled script may come

abbrev pub in_phase : ScriptPhase → Script → Draft
in_phase phase script = record { phase = phase; script = script }

abbrev pub with_events : Script → List Event → Script
with_events script events = record script { events = events }

-- an answer with these details behind what it has
abbrev completed : FinalAnswer → List Detail → FinalAnswer
completed answer details = record {
  status = answer.status;
  offers = answer.offers ++ offers_said details;
  challenges = answer.challenges ++ challenges_said details;
}

abbrev answering : Script → List Event → ℕ → FinalAnswer → Draft
answering script events n answer = in_phase AtAnswer (with_events script (events ++ Answer n answer ∷ []))

-- one more contact, one more challenge
contact_drafted : (script : Script) (events : List Event) (n : ℕ) (answer : FinalAnswer) (offer : Offer)
    → in_phase AtAnswer (with_events script (last_changed (with_contact offer) (events ++ Answer n answer ∷ []))) ≡ answering script events n (with_contact offer answer)
contact_drafted script events n answer offer = grind (arith, common_steps, last_changed-snoc)

challenge_drafted : (script : Script) (events : List Event) (n : ℕ) (answer : FinalAnswer) (challenge : Challenge)
    → in_phase AtAnswer (with_events script (last_changed (with_challenge challenge) (events ++ Answer n answer ∷ []))) ≡ answering script events n (with_challenge challenge answer)
challenge_drafted script events n answer challenge = grind (arith, common_steps, last_changed-snoc)

details_drafted : (script : Script) (events : List Event) (n : ℕ) (answer : FinalAnswer) (details : List Detail)
    → drafted_lines (answering script events n answer) (map detail_line details) ≡ Some (answering script events n (completed answer details))
details_drafted script events n answer [] = grind (arith, common_steps, append-nil)
details_drafted script events n answer (ContactDetail q name ∷ details) =
    let offer : Offer = record { text = name; q = q; key = Some name } in
    grind (arith, common_steps, contact_drafted script events n answer offer, details_drafted script events n (with_contact offer answer) details, append_assoc)
details_drafted script events n answer (OtherDetail q text ∷ details) =
    let offer : Offer = record { text = text; q = q; key = None } in
    grind (arith, common_steps, contact_drafted script events n answer offer, details_drafted script events n (with_contact offer answer) details, append_assoc)
details_drafted script events n answer (ChallengeDetail proxy value ∷ details) =
    let challenge : Challenge = record { proxy = proxy; value = value } in
    grind (arith, common_steps, challenge_drafted script events n answer challenge, details_drafted script events n (with_challenge challenge answer) details, append_assoc)

-- these lines lead to the script
pub record Reached (draft : Draft) (lines : List Line) (script : Script) : Type 0 where
  pub phase : ScriptPhase
  pub due : drafted_lines draft lines ≡ Some (in_phase phase script)
  pub whole : has_kind phase ≡ true

-- an event with what stands behind it
event_line : (phase : ScriptPhase) (script : Script) (event : Event) → has_kind phase ≡ true
    → drafted_line (in_phase phase script) (EventLine event) ≡ Some (in_phase (phase_behind event) (with_events script (script.events ++ event ∷ [])))
event_line phase script event h = grind arith

behind_has_kind : (event : Event) → has_kind (phase_behind event) ≡ true
behind_has_kind event = grind arith

abbrev pub said : Told → Event
said told = event_said told.event told.details

-- what is written behind it, where it has been read
behind_drafted : (script : Script) (event : Event) (details : List Detail) → IsLine (EventLine event) → MayStandBehind event details
    → drafted_lines (in_phase (phase_behind event) (with_events script (script.events ++ event ∷ []))) (map detail_line details)
    ≡ Some (in_phase (phase_behind event) (with_events script (script.events ++ event_said event details ∷ [])))
behind_drafted script event details h may = grind (arith, common_steps, details_drafted)

abbrev pub MayStand : Told → Type 0
MayStand told = MayStandBehind told.event told.details

told_drafted : (phase : ScriptPhase) (script : Script) (told : Told) → has_kind phase ≡ true → IsLine (EventLine told.event) → MayStand told
    → drafted_lines (in_phase phase script) (told_lines told) ≡ Some (in_phase (phase_behind told.event) (with_events script (script.events ++ said told ∷ [])))
told_drafted phase script told whole h may = grind (arith, common_steps, option_and_then, event_line, behind_drafted)

pub history_drafted : (phase : ScriptPhase) (script : Script) (history : List Told) → has_kind phase ≡ true
    → AllByRecursion IsLine (flat_map told_lines history) → AllByRecursion MayStand history
    → Reached (in_phase phase script) (flat_map told_lines history) (with_events script (script.events ++ map said history))
history_drafted phase script [] whole lines may = grind (arith, common_steps, append-nil)
history_drafted phase script (told ∷ history) whole lines may =
    let one : Script = with_events script (script.events ++ said told ∷ []) in
    let rest : AllByRecursion IsLine (flat_map told_lines history) = all_back IsLine (told_lines told) (flat_map told_lines history) lines in
    let more = history_drafted (phase_behind told.event) one history (behind_has_kind told.event) rest may.1 in
    grind (arith, common_steps, told_drafted phase script told whole lines.0 may.0, drafted_append, append_assoc)

abbrev with_targets : Script → List Target → Script
with_targets script targets = record script { targets = targets }

targets_drafted : (script : Script) (targets : List Target)
    → drafted_lines (in_phase AtTargets script) (map target_line targets) ≡ Some (in_phase AtTargets (with_targets script (script.targets ++ targets)))
targets_drafted script [] = ap (λ (ts : List Target). Some (in_phase AtTargets (with_targets script ts))) (sym (append-nil script.targets))
targets_drafted script (target ∷ targets) =
    targets_drafted (with_targets script (script.targets ++ target ∷ [])) targets
    ∙ ap (λ (ts : List Target). Some (in_phase AtTargets (with_targets script ts))) (append_assoc script.targets (target ∷ []) targets)

abbrev pub body_of : List Target → List Told → List Line
body_of targets history = map target_line targets ++ flat_map told_lines history

-- before its first target
abbrev head : Kind → Rules → Script
head kind rules = record { kind = kind; rules = rules; targets = []; events = [] }

abbrev filled : Kind → Rules → List Target → List Told → Script
filled kind rules targets history = record { kind = kind; rules = rules; targets = targets; events = map said history }

-- which phases take a target
abbrev TakesTargets : ScriptPhase → Type 0
TakesTargets phase = (q : ℕ) (name : List ℕ) → phase_after phase (TargetLine q name) ≡ Some AtTargets

body_drafted : (phase : ScriptPhase) (kind : Kind) (rules : Rules) (targets : List Target) (history : List Told) → has_kind phase ≡ true → TakesTargets phase
    → AllByRecursion IsLine (flat_map told_lines history) → AllByRecursion MayStand history
    → Reached (in_phase phase (head kind rules)) (body_of targets history) (filled kind rules targets history)
body_drafted phase kind rules [] history whole takes lines may = history_drafted phase (head kind rules) history whole lines may
body_drafted phase kind rules (target ∷ targets) history whole takes lines may =
    let one : Script = with_targets (head kind rules) (target ∷ []) in
    let first : drafted_line (in_phase phase (head kind rules)) (target_line target) ≡ Some (in_phase AtTargets one) =
    ap (option_map (λ p. in_phase p one)) (takes target.q target.key) in
    let more = history_drafted AtTargets (with_targets (head kind rules) (target ∷ targets)) history refl lines may in
    grind (arith, common_steps, targets_drafted one targets, option_and_then, drafted_append)

-- where the lines of the rules end, whichever are written
script_drafted_as : (kind : Kind) (prefer : Option (List ℕ)) (depth : Option ℕ) (targets : List Target) (history : List Told)
    → AllByRecursion IsLine (flat_map told_lines history) → AllByRecursion MayStand history
    → Reached no_draft (KindLine kind ∷ (prefer_lines prefer ++ (depth_lines depth ++ body_of targets history))) (filled kind (record { preferred = preferred_said prefer; depth = depth_said depth }) targets history)
script_drafted_as kind None None targets history lines may =
    let r = body_drafted AtPrefer kind usual_rules targets history refl (λ q name. refl) lines may in
    record { phase = r.phase; due = r.due; whole = r.whole }
script_drafted_as kind None (Some depth) targets history lines may =
    let r = body_drafted AtTargets kind (record { preferred = usual_preferred; depth = depth }) targets history refl (λ q name. refl) lines may in
    record { phase = r.phase; due = r.due; whole = r.whole }
script_drafted_as kind (Some statuses) None targets history lines may =
    let r = body_drafted AtDepth kind (record { preferred = statuses; depth = most_targets }) targets history refl (λ q name. refl) lines may in
    record { phase = r.phase; due = r.due; whole = r.whole }
script_drafted_as kind (Some statuses) (Some depth) targets history lines may =
    let r = body_drafted AtTargets kind (record { preferred = statuses; depth = depth }) targets history refl (λ q name. refl) lines may in
    record { phase = r.phase; due = r.due; whole = r.whole }

-- the lines behind those of the rules, then those behind the targets
pub history_lines : (s : Spelling) → AllByRecursion IsLine (lines_of s) → AllByRecursion IsLine (flat_map told_lines s.history)
history_lines s h = grind (arith, common_steps, all_back, body_of)

pub script_drafted : (s : Spelling) → IsSpelling s → Reached no_draft (lines_of s) (script_of s)
script_drafted s h = script_drafted_as s.kind s.prefer s.depth s.targets s.history (history_lines s h.lines) h.behind

-- ---- lines that may come from the first to the last are those of a spelled script

-- what may stand at the front in this phase
abbrev pub MayOpen : ScriptPhase → List Detail → Type 0
MayOpen AtAnswer details = Unit {0}
MayOpen _ details = details ≡ []

may_open_none : (phase : ScriptPhase) → MayOpen phase []
may_open_none phase = grind arith

may_stand : (event : Event) (details : List Detail) → MayOpen (phase_behind event) details → MayStandBehind event details
may_stand event details h = grind arith

pub record HistoryFound (phase : ScriptPhase) (lines : List Line) : Type 0 where
  pub details : List Detail
  pub history : List Told
  pub spelled : map detail_line details ++ flat_map told_lines history ≡ lines
  pub open_ : MayOpen phase details
  pub behind : AllByRecursion MayStand history

-- the targets have been read
abbrev pub IsLate : ScriptPhase → Type 0
IsLate AtEvents = Unit {0}
IsLate AtAnswer = Unit {0}
IsLate _ = ⊥

behind_is_late : (event : Event) → IsLate (phase_behind event)
behind_is_late event = grind arith

none_found : (phase : ScriptPhase) → HistoryFound phase []
none_found phase = record { details = []; history = []; spelled = refl; open_ = may_open_none phase; behind = tt }

event_found : (phase : ScriptPhase) (event : Event) (lines : List Line) → HistoryFound (phase_behind event) lines → HistoryFound phase (EventLine event ∷ lines)
event_found phase event lines more = record {
  details = [];
  history = record { event = event; details = more.details } ∷ more.history;
  spelled = ap (λ (ls : List Line). EventLine event ∷ ls) more.spelled;
  open_ = may_open_none phase;
  behind = (may_stand event more.details more.open_, more.behind);
}

detail_found : (detail : Detail) (lines : List Line) → HistoryFound AtAnswer lines → HistoryFound AtAnswer (detail_line detail ∷ lines)
detail_found detail lines more = record {
  details = detail ∷ more.details;
  history = more.history;
  spelled = ap (λ (ls : List Line). detail_line detail ∷ ls) more.spelled;
  open_ = tt;
  behind = more.behind;
}

pub history_found : (phase : ScriptPhase) (script : Script) (lines : List Line) (next : Draft) → IsLate phase → drafted_lines (in_phase phase script) lines ≡ Some next → HistoryFound phase lines
history_found AtKind script lines next late due = absurd late
history_found AtPrefer script lines next late due = absurd late
history_found AtDepth script lines next late due = absurd late
history_found AtTargets script lines next late due = absurd late
history_found AtEvents script [] next late due = none_found AtEvents
history_found AtEvents script (EventLine event ∷ lines) next late due = grind (arith, common_steps, event_found, behind_is_late, history_found (phase_behind event) (with_line script (EventLine event)) lines next (behind_is_late event) due)
history_found AtEvents script (KindLine kind ∷ lines) next late due = absurd cc
history_found AtEvents script (PreferLine statuses ∷ lines) next late due = absurd cc
history_found AtEvents script (DepthLine depth ∷ lines) next late due = absurd cc
history_found AtEvents script (TargetLine q name ∷ lines) next late due = absurd cc
history_found AtEvents script (ContactLine q name ∷ lines) next late due = absurd cc
history_found AtEvents script (OtherLine q text ∷ lines) next late due = absurd cc
history_found AtEvents script (ChallengeLine proxy value ∷ lines) next late due = absurd cc
history_found AtAnswer script [] next late due = none_found AtAnswer
history_found AtAnswer script (EventLine event ∷ lines) next late due = grind (arith, common_steps, event_found, behind_is_late, history_found (phase_behind event) (with_line script (EventLine event)) lines next (behind_is_late event) due)
history_found AtAnswer script (ContactLine q name ∷ lines) next late due =
    detail_found (ContactDetail q name) lines (history_found AtAnswer (with_line script (ContactLine q name)) lines next tt due)
history_found AtAnswer script (OtherLine q text ∷ lines) next late due =
    detail_found (OtherDetail q text) lines (history_found AtAnswer (with_line script (OtherLine q text)) lines next tt due)
history_found AtAnswer script (ChallengeLine proxy value ∷ lines) next late due =
    detail_found (ChallengeDetail proxy value) lines (history_found AtAnswer (with_line script (ChallengeLine proxy value)) lines next tt due)
history_found AtAnswer script (KindLine kind ∷ lines) next late due = absurd cc
history_found AtAnswer script (PreferLine statuses ∷ lines) next late due = absurd cc
history_found AtAnswer script (DepthLine depth ∷ lines) next late due = absurd cc
history_found AtAnswer script (TargetLine q name ∷ lines) next late due = absurd cc

record BodyFound (lines : List Line) : Type 0 where
  targets : List Target
  history : List Told
  spelled : body_of targets history ≡ lines
  behind : AllByRecursion MayStand history

no_body : BodyFound []
no_body = record { targets = []; history = []; spelled = refl; behind = tt }

first_event : (event : Event) (lines : List Line) → HistoryFound (phase_behind event) lines → BodyFound (EventLine event ∷ lines)
first_event event lines more = record {
  targets = [];
  history = record { event = event; details = more.details } ∷ more.history;
  spelled = ap (λ (ls : List Line). EventLine event ∷ ls) more.spelled;
  behind = (may_stand event more.details more.open_, more.behind);
}

body_found : (script : Script) (lines : List Line) (next : Draft) → drafted_lines (in_phase AtTargets script) lines ≡ Some next → BodyFound lines
body_found script [] next due = no_body
body_found script (TargetLine q name ∷ lines) next due =
    let more = body_found (with_line script (TargetLine q name)) lines next due in
    record {
      targets = record { key = name; q = q } ∷ more.targets;
      history = more.history;
      spelled = ap (λ (ls : List Line). TargetLine q name ∷ ls) more.spelled;
      behind = more.behind;
    }
body_found script (EventLine event ∷ lines) next due = grind (arith, common_steps, first_event event lines (history_found (phase_behind event) (with_line script (EventLine event)) lines next (behind_is_late event) due), history_found, behind_is_late)
body_found script (KindLine kind ∷ lines) next due = absurd cc
body_found script (PreferLine statuses ∷ lines) next due = absurd cc
body_found script (DepthLine depth ∷ lines) next due = absurd cc
body_found script (ContactLine q name ∷ lines) next due = absurd cc
body_found script (OtherLine q text ∷ lines) next due = absurd cc
body_found script (ChallengeLine proxy value ∷ lines) next due = absurd cc

record LinesFound (lines : List Line) : Type 0 where
  script : Spelling
  spelled : lines_of script ≡ lines
  behind : AllByRecursion MayStand script.history

close : (kind : Kind) (prefer : Option (List ℕ)) (depth : Option ℕ) (lines : List Line) → BodyFound lines
    → LinesFound (KindLine kind ∷ (prefer_lines prefer ++ (depth_lines depth ++ lines)))
close kind prefer depth lines body = record {
  script = record { kind = kind; prefer = prefer; depth = depth; targets = body.targets; history = body.history };
  spelled = ap (λ (ls : List Line). KindLine kind ∷ (prefer_lines prefer ++ (depth_lines depth ++ ls))) body.spelled;
  behind = body.behind;
}

at_depth : (kind : Kind) (statuses : List ℕ) (script : Script) (lines : List Line) (next : Draft)
    → drafted_lines (in_phase AtDepth script) lines ≡ Some next → LinesFound (KindLine kind ∷ PreferLine statuses ∷ lines)
at_depth kind statuses script [] next due = close kind (Some statuses) None [] no_body
at_depth kind statuses script (DepthLine depth ∷ lines) next due = grind (arith, common_steps, close kind (Some statuses) (Some depth) lines (body_found (with_line script (DepthLine depth)) lines next due), body_found)
at_depth kind statuses script (TargetLine q name ∷ lines) next due = grind (arith, common_steps, close kind (Some statuses) None (TargetLine q name ∷ lines) (body_found script (TargetLine q name ∷ lines) next due), body_found)
at_depth kind statuses script (EventLine event ∷ lines) next due = grind (arith, common_steps, close kind (Some statuses) None (EventLine event ∷ lines) (body_found script (EventLine event ∷ lines) next due), body_found)
at_depth kind statuses script (KindLine again ∷ lines) next due = absurd cc
at_depth kind statuses script (PreferLine others ∷ lines) next due = absurd cc
at_depth kind statuses script (ContactLine q name ∷ lines) next due = absurd cc
at_depth kind statuses script (OtherLine q text ∷ lines) next due = absurd cc
at_depth kind statuses script (ChallengeLine proxy value ∷ lines) next due = absurd cc

at_prefer : (kind : Kind) (script : Script) (lines : List Line) (next : Draft)
    → drafted_lines (in_phase AtPrefer script) lines ≡ Some next → LinesFound (KindLine kind ∷ lines)
at_prefer kind script [] next due = close kind None None [] no_body
at_prefer kind script (PreferLine statuses ∷ lines) next due = at_depth kind statuses (with_line script (PreferLine statuses)) lines next due
at_prefer kind script (DepthLine depth ∷ lines) next due = grind (arith, common_steps, close kind None (Some depth) lines (body_found (with_line script (DepthLine depth)) lines next due), body_found)
at_prefer kind script (TargetLine q name ∷ lines) next due = grind (arith, common_steps, close kind None None (TargetLine q name ∷ lines) (body_found script (TargetLine q name ∷ lines) next due), body_found)
at_prefer kind script (EventLine event ∷ lines) next due = grind (arith, common_steps, close kind None None (EventLine event ∷ lines) (body_found script (EventLine event ∷ lines) next due), body_found)
at_prefer kind script (KindLine again ∷ lines) next due = absurd cc
at_prefer kind script (ContactLine q name ∷ lines) next due = absurd cc
at_prefer kind script (OtherLine q text ∷ lines) next due = absurd cc
at_prefer kind script (ChallengeLine proxy value ∷ lines) next due = absurd cc

-- without its first line a script is not whole
not_whole : (next : Draft) → Some no_draft ≡ Some next → has_kind next.phase ≡ true → ⊥
not_whole next due whole = grind arith

all_found : (lines : List Line) (next : Draft) → drafted_lines no_draft lines ≡ Some next → has_kind next.phase ≡ true → LinesFound lines
all_found [] next due whole = absurd (not_whole next due whole)
all_found (KindLine kind ∷ lines) next due whole = at_prefer kind (with_line no_script (KindLine kind)) lines next due
all_found (PreferLine statuses ∷ lines) next due whole = absurd cc
all_found (DepthLine depth ∷ lines) next due whole = absurd cc
all_found (TargetLine q name ∷ lines) next due whole = absurd cc
all_found (EventLine event ∷ lines) next due whole = absurd cc
all_found (ContactLine q name ∷ lines) next due whole = absurd cc
all_found (OtherLine q text ∷ lines) next due whole = absurd cc
all_found (ChallengeLine proxy value ∷ lines) next due whole = absurd cc

pub record WholeFound (lines : List Line) (next : Draft) : Type 0 where
  pub script : Spelling
  pub is : IsSpelling script
  pub spelled : lines_of script ≡ lines
  pub same : script_of script ≡ next.script

pub whole_found : (lines : List Line) (next : Draft) → AllByRecursion IsLine lines → drafted_lines no_draft lines ≡ Some next → has_kind next.phase ≡ true → WholeFound lines next
whole_found lines next right due whole =
    let found = all_found lines next due whole in
    let P : List Line → Type 0 = AllByRecursion IsLine in
    let is : IsSpelling found.script = record { lines = subst P (sym found.spelled) right; behind = found.behind } in
    grind (arith, common_steps, script_drafted found.script is, same_Some)

-- ---- lines that may come are the first of some script

record Completed (draft : Draft) : Type 0 where
  more : List Line
  right : AllByRecursion IsLine more
  next : Draft
  due : drafted_lines draft more ≡ Some next
  whole : has_kind next.phase ≡ true

as_it_is : (phase : ScriptPhase) (script : Script) → has_kind phase ≡ true → Completed (in_phase phase script)
as_it_is phase script whole = record { more = []; right = tt; next = in_phase phase script; due = refl; whole = whole }

completed_by : (phase : ScriptPhase) (script : Script) → Completed (in_phase phase script)
completed_by AtKind script = record {
  more = KindLine Invite ∷ [];
  right = (tt, tt);
  next = in_phase AtPrefer (with_line script (KindLine Invite));
  due = refl;
  whole = refl;
}
completed_by AtPrefer script = as_it_is AtPrefer script refl
completed_by AtDepth script = as_it_is AtDepth script refl
completed_by AtTargets script = as_it_is AtTargets script refl
completed_by AtEvents script = as_it_is AtEvents script refl
completed_by AtAnswer script = as_it_is AtAnswer script refl

pub begins : (lines : List Line) (draft : Draft) → AllByRecursion IsLine lines → drafted_lines no_draft lines ≡ Some draft → Begins lines
begins lines draft right due =
    let c = completed_by draft.phase draft.script in
    let found = whole_found (lines ++ c.more) c.next (all_append IsLine lines c.more right c.right) (drafted_append drafted_line no_draft lines c.more draft due ∙ c.due) c.whole in
    record { script = found.script; is = found.is; more = c.more; whole = found.spelled }

pub begins_with : (lines : List Line) (line : Line) (draft next : Draft) → AllByRecursion IsLine lines → IsLine line → drafted_lines no_draft lines ≡ Some draft → drafted_line draft line ≡ Some next
    → Begins (lines ++ line ∷ [])
begins_with lines line draft next right fits due one = grind (arith, common_steps, drafted_append drafted_line no_draft lines (line ∷ []) draft due, begins, all_append, option_and_then)

-- and the first lines of a script may come
pub record LinesDue (lines : List Line) : Type 0 where
  pub right : AllByRecursion IsLine lines
  pub next : Draft
  pub due : drafted_lines no_draft lines ≡ Some next

front_due : (draft : Draft) (lines more : List Line) (end : Draft) → drafted_lines draft (lines ++ more) ≡ Some end → (next : Draft) × (drafted_lines draft lines ≡ Some next)
front_due draft [] more end due = (draft, refl)
front_due draft (line ∷ lines) more end due =
    found_then (λ d. drafted_lines d (lines ++ more)) (drafted_line draft line) end ((next : Draft) × (drafted_lines draft (line ∷ lines) ≡ Some next))
    (λ d at rest.
    let behind = front_due d lines more end rest in
    (behind.0, ap (option_and_then (λ e. drafted_lines e lines)) at ∙ behind.1))
    due

pub lines_due : (lines : List Line) → Begins lines → LinesDue lines
lines_due lines b =
    let reached = script_drafted b.script b.is in
    let due : drafted_lines no_draft (lines ++ b.more) ≡ Some (in_phase reached.phase (script_of b.script)) = sym (ap (drafted_lines no_draft) b.whole) ∙ reached.due in
    grind (arith, common_steps, front_due, all_front)

-- so a line behind them that no draft takes begins none
pub record NextDue (draft : Draft) (line : Line) : Type 0 where
  pub fits : IsLine line
  pub next : Draft
  pub due : drafted_line draft line ≡ Some next

pub next_due : (lines : List Line) (line : Line) (draft : Draft) → drafted_lines no_draft lines ≡ Some draft → Begins (lines ++ line ∷ []) → NextDue draft line
next_due lines line draft due b =
    let h = lines_due (lines ++ line ∷ []) b in
    let fit : AllByRecursion IsLine (line ∷ []) = all_back IsLine lines (line ∷ []) h.right in
    grind (arith, common_steps, drafted_append drafted_line no_draft lines (line ∷ []) draft due, found_then)
