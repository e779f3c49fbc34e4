-- The lines of a spelled script with workers may come one after another, and lines that may are those of one.
use Rattle.std.proofs.Common.{◌≡◌, ℕ, suc, ◌+◌, ◌<◌, ◌≤◌, Bool, true, false, cond, not, ◌&&◌, List, [], ◌∷◌, ◌++◌, length, map, Option, Some, None, refl, sym, ap, subst, ◌∙◌, arith, append_assoc}
use Rattle.std.specs.Prelude.{nat_lt, option_and_then}
use Rattle.std.specs.List.{flat_map, AllByRecursion}
use Rattle.std.proofs.lemmas.Option.{same_Some}
use Rattle.std.proofs.lemmas.List.{length-append}
use Rattle.std.proofs.lemmas.Bool.Decides.{nat_tests}
use Rattle.fork_model.specs.Table.{Invite}
use Rattle.fork_model.specs.Event.{FinalAnswer, Event}
use Rattle.fork_rank.specs.Pieces.{is_empty}
use Rattle.fork_rank.specs.LineByLine as texts
use Rattle.fork_rank.proofs.laws.Field.{found_map, found_then}
use Rattle.fork_rank.proofs.laws.Lines.{all_append, all_front, all_back, drafted_append}
use Rattle.fork_program.specs.declared.script.ScriptPhase.{ScriptPhase}
use Rattle.fork_program.specs.declared.script.ScriptPhase.TheVariants.{AtKind, AtPrefer, AtDepth, AtTargets, AtEvents, AtAnswer}
use Rattle.fork_program.specs.Line as lines
use Rattle.fork_program.specs.Line.{KindLine, PreferLine, DepthLine, TargetLine, EventLine, ContactLine, OtherLine, ChallengeLine}
use Rattle.fork_program.specs.Script as plain
use Rattle.fork_program.specs.Script.{Script, last_changed, with_line, phase_after, has_kind, phase_behind}
use Rattle.fork_program.specs.Spelling as script
use Rattle.fork_program.specs.Spelling.{Told, told_lines, detail_line, script_of}
use Rattle.fork_program.proofs.laws.DraftedLines as single
use Rattle.fork_program.proofs.laws.DraftedLines.{in_phase, with_events, said, MayStand}
use Rattle.fork_engine.specs.Workers.{Workers, most_workers}
use Rattle.fork_engine.specs.Spelling.{Spelling, Line, PlainLine, WorkerLine, forked, worker_lines, lines_of, IsLine, IsSpelling, history_said, workers_of}
use Rattle.fork_engine.specs.Malformed.{Begins}
use Rattle.fork_engine.specs.inner.Reading.{Draft, no_draft, is_at_work, first_worker, next_worker, with_worker, with_last, workers_in}

-- the draft behind one more line, where it may come
abbrev pub drafted_line : Draft → Line → Option Draft
drafted_line draft (PlainLine line) = option_and_then (with_last draft) (plain.drafted_line draft.last line)
drafted_line draft WorkerLine = with_worker draft

abbrev pub drafted_lines : Draft → List Line → Option Draft
drafted_lines = texts.drafted_lines drafted_line

abbrev pub draft_of : plain.Draft → List (List Event) → Draft
draft_of last before = record { last = last; before = before }

-- ---- a worker that has begun goes on

behind_at_work : (event : Event) → is_at_work (phase_behind event) ≡ true
behind_at_work event = grind arith

abbrev AtWork : ScriptPhase → Type 0
AtWork phase = is_at_work phase ≡ true

work_phase : (phase : ScriptPhase) (line : lines.Line) (next : ScriptPhase) → is_at_work phase ≡ true → phase_after phase line ≡ Some next → is_at_work next ≡ true
work_phase AtEvents (EventLine event) next work at = subst AtWork (same_Some _ _ at) (behind_at_work event)
work_phase AtAnswer (EventLine event) next work at = subst AtWork (same_Some _ _ at) (behind_at_work event)
work_phase AtAnswer (ContactLine q name) next work at = subst AtWork (same_Some _ _ at) refl
work_phase AtAnswer (OtherLine q text) next work at = subst AtWork (same_Some _ _ at) refl
work_phase AtAnswer (ChallengeLine proxy value) next work at = subst AtWork (same_Some _ _ at) refl
work_phase _ _ next work at = absurd cc

work_stays : (last next : plain.Draft) (line : lines.Line) → is_at_work last.phase ≡ true → plain.drafted_line last line ≡ Some next → is_at_work next.phase ≡ true
work_stays last next line work due =
    found_map (λ phase. in_phase phase (with_line last.script line)) (phase_after last.phase line) next (λ d. is_at_work d.phase ≡ true)
    (λ phase at. work_phase last.phase line phase work at)
    due

work_stays_on : (last next : plain.Draft) (ls : List lines.Line) → is_at_work last.phase ≡ true → single.drafted_lines last ls ≡ Some next → is_at_work next.phase ≡ true
work_stays_on last next [] work due = subst (λ (d : plain.Draft). is_at_work d.phase ≡ true) (same_Some _ _ due) work
work_stays_on last next (line ∷ ls) work due =
    found_then (λ d. single.drafted_lines d ls) (plain.drafted_line last line) next (is_at_work next.phase ≡ true)
    (λ d at rest. work_stays_on d next ls (work_stays last d line work at) rest)
    due

-- ---- a line of a script without workers

true_false : (b : Bool) → b ≡ true → b ≡ false → ⊥
true_false b x y = cc

is_false : (b : Bool) → (b ≡ true → ⊥) → b ≡ false
is_false true never = absurd (never refl)
is_false false never = refl

taken_due : (a b : Bool) (x : Draft) → (b ≡ true → a ≡ false → ⊥) → cond (b && not a) None (Some x) ≡ Some x
taken_due true true x never = refl
taken_due true false x never = refl
taken_due false false x never = refl
taken_due false true x never = absurd (never refl refl)

taken_is : (a b : Bool) (x d : Draft) → cond (b && not a) None (Some x) ≡ Some d → (d ≡ x) × (b ≡ true → a ≡ false → ⊥)
taken_is true true x d e = (sym (same_Some _ _ e), λ after open_. true_false true refl open_)
taken_is true false x d e = (sym (same_Some _ _ e), λ after open_. true_false true refl open_)
taken_is false false x d e = (sym (same_Some _ _ e), λ after open_. true_false false after refl)
taken_is false true x d e = absurd cc

plain_due : (last next : plain.Draft) (before : List (List Event)) (line : lines.Line) → (is_at_work next.phase ≡ true → is_at_work last.phase ≡ false → ⊥)
    → plain.drafted_line last line ≡ Some next → drafted_line (draft_of last before) (PlainLine line) ≡ Some (draft_of next before)
plain_due last next before line never due =
    ap (option_and_then (with_last (draft_of last before))) due ∙ taken_due (is_at_work last.phase) (is_at_work next.phase) (draft_of next before) never

lines_at_work : (last next : plain.Draft) (before : List (List Event)) (ls : List lines.Line) → is_at_work last.phase ≡ true → single.drafted_lines last ls ≡ Some next
    → drafted_lines (draft_of last before) (map PlainLine ls) ≡ Some (draft_of next before)
lines_at_work last next before [] work due = ap (λ (d : plain.Draft). Some (draft_of d before)) (same_Some _ _ due)
lines_at_work last next before (line ∷ ls) work due =
    found_then (λ d. single.drafted_lines d ls) (plain.drafted_line last line) next
    (drafted_lines (draft_of last before) (map PlainLine (line ∷ ls)) ≡ Some (draft_of next before))
    (λ d at rest.
    ap (option_and_then (λ e. drafted_lines e (map PlainLine ls))) (plain_due last d before line (λ after open_. true_false (is_at_work last.phase) work open_) at)
    ∙ lines_at_work d next before ls (work_stays last d line work at) rest)
    due

lines_before_work : (last next : plain.Draft) (before : List (List Event)) (ls : List lines.Line) → is_at_work next.phase ≡ false → single.drafted_lines last ls ≡ Some next
    → drafted_lines (draft_of last before) (map PlainLine ls) ≡ Some (draft_of next before)
lines_before_work last next before [] quiet due = ap (λ (d : plain.Draft). Some (draft_of d before)) (same_Some _ _ due)
lines_before_work last next before (line ∷ ls) quiet due =
    found_then (λ d. single.drafted_lines d ls) (plain.drafted_line last line) next
    (drafted_lines (draft_of last before) (map PlainLine (line ∷ ls)) ≡ Some (draft_of next before))
    (λ d at rest.
    ap (option_and_then (λ e. drafted_lines e (map PlainLine ls)))
    (plain_due last d before line (λ after open_. true_false (is_at_work next.phase) (work_stays_on d next ls after rest) quiet) at)
    ∙ lines_before_work d next before ls quiet rest)
    due

-- ---- a line that begins a worker

first_due : (a b c : Bool) (f n : Draft) → a ≡ true → b ≡ false → cond (not a) None (cond (not b) (Some f) (cond c (Some n) None)) ≡ Some f
first_due true false c f n x y = refl
first_due true true c f n x y = absurd cc
first_due false b c f n x y = absurd cc

next_due_so : (a b c : Bool) (f n : Draft) → a ≡ true → b ≡ true → c ≡ true → cond (not a) None (cond (not b) (Some f) (cond c (Some n) None)) ≡ Some n
next_due_so true true true f n x y z = refl
next_due_so true true false f n x y z = absurd cc
next_due_so true false c f n x y z = absurd cc
next_due_so false b c f n x y z = absurd cc

first_of : (a b c : Bool) (f n d : Draft) → b ≡ false → cond (not a) None (cond (not b) (Some f) (cond c (Some n) None)) ≡ Some d → (d ≡ f) × (a ≡ true)
first_of true false c f n d y e = (sym (same_Some _ _ e), refl)
first_of true true c f n d y e = absurd cc
first_of false b c f n d y e = absurd cc

next_of : (a b c : Bool) (f n d : Draft) → b ≡ true → cond (not a) None (cond (not b) (Some f) (cond c (Some n) None)) ≡ Some d → (d ≡ n) × (c ≡ true)
next_of true true true f n d y e = (sym (same_Some _ _ e), refl)
next_of true true false f n d y e = absurd cc
next_of true false c f n d y e = absurd cc
next_of false b c f n d y e = absurd cc

none_due : (a b c : Bool) (f n : Draft) → b ≡ true → c ≡ false → cond (not a) None (cond (not b) (Some f) (cond c (Some n) None)) ≡ None
none_due true true false f n y z = refl
none_due true true true f n y z = absurd cc
none_due true false c f n y z = absurd cc
none_due false b c f n y z = refl

kind_at_work : (phase : ScriptPhase) → is_at_work phase ≡ true → has_kind phase ≡ true
kind_at_work phase work = grind arith

more_may : (n : ℕ) → suc n < most_workers → nat_lt (suc n) most_workers ≡ true
more_may n lt = grind (arith, nat_tests)

no_more : (n : ℕ) → most_workers ≤ suc n → nat_lt (suc n) most_workers ≡ false
no_more n many = grind (arith, nat_tests)

may_more : (n : ℕ) → nat_lt (suc n) most_workers ≡ true → suc n < most_workers
may_more n e = grind (arith, nat_tests)

first_begins : (draft : Draft) → has_kind draft.last.phase ≡ true → is_at_work draft.last.phase ≡ false → with_worker draft ≡ Some (first_worker draft)
first_begins draft kind quiet =
    first_due (has_kind draft.last.phase) (is_at_work draft.last.phase) (nat_lt (suc (length draft.before)) most_workers) (first_worker draft) (next_worker draft) kind quiet

next_begins : (draft : Draft) → is_at_work draft.last.phase ≡ true → suc (length draft.before) < most_workers → with_worker draft ≡ Some (next_worker draft)
next_begins draft work few =
    next_due_so (has_kind draft.last.phase) (is_at_work draft.last.phase) (nat_lt (suc (length draft.before)) most_workers) (first_worker draft) (next_worker draft) (kind_at_work draft.last.phase work) work (more_may (length draft.before) few)

pub none_begins : (draft self : Draft) → draft ≡ self → is_at_work draft.last.phase ≡ true → most_workers ≤ suc (length draft.before) → None ≡ with_worker self
none_begins draft self seen work many =
    sym (none_due (has_kind draft.last.phase) (is_at_work draft.last.phase) (nat_lt (suc (length draft.before)) most_workers) (first_worker draft) (next_worker draft) work (no_more (length draft.before) many))
    ∙ ap with_worker seen

-- the draft of a worker that begins behind these
abbrev pub begun_behind : Draft → List Event → List (List Event) → Draft
begun_behind draft events scripts = draft_of (in_phase AtEvents (record draft.last.script { events = events })) scripts

pub one_begins : (draft self : Draft) (events : List Event) (scripts : List (List Event)) → draft ≡ self → is_at_work draft.last.phase ≡ true → suc (length draft.before) < most_workers
    → events ≡ [] → scripts ≡ draft.before ++ draft.last.script.events ∷ [] → Some (begun_behind draft events scripts) ≡ with_worker self
one_begins draft self events scripts seen work few none more =
    ap (λ (es : List Event). Some (begun_behind draft es scripts)) none
    ∙ ap (λ (ss : List (List Event)). Some (begun_behind draft [] ss)) more
    ∙ sym (next_begins draft work few)
    ∙ ap with_worker seen

-- ---- before the first worker there are no events

abbrev Counts : plain.Draft → Type 0
Counts d = is_at_work d.phase ≡ not (is_empty d.script.events)

some_snoc : (events : List Event) (event : Event) → is_empty (events ++ event ∷ []) ≡ false
some_snoc [] event = refl
some_snoc (first ∷ events) event = refl

changed_empty : (change : FinalAnswer → FinalAnswer) (events : List Event) → is_empty (last_changed change events) ≡ is_empty events
changed_empty change [] = refl
changed_empty change (event ∷ []) = refl
changed_empty change (event ∷ next ∷ events) = refl

event_phase : (phase : ScriptPhase) (event : Event) (next : ScriptPhase) → phase_after phase (EventLine event) ≡ Some next → is_at_work next ≡ true
event_phase AtKind event next at = absurd cc
event_phase _ event next at = subst AtWork (same_Some _ _ at) (behind_at_work event)

abbrev CountsIn : Script → lines.Line → ScriptPhase → Type 0
CountsIn s line next = is_at_work next ≡ not (is_empty (with_line s line).events)

counts_phase : (phase : ScriptPhase) (s : Script) (line : lines.Line) (next : ScriptPhase) → is_at_work phase ≡ not (is_empty s.events) → phase_after phase line ≡ Some next → CountsIn s line next
counts_phase phase s (EventLine event) next counts at = event_phase phase event next at ∙ ap not (sym (some_snoc s.events event))
counts_phase AtAnswer s (ContactLine q name) next counts at =
    subst (CountsIn s (ContactLine q name)) (same_Some _ _ at) (counts ∙ ap not (sym (changed_empty _ s.events)))
counts_phase AtAnswer s (OtherLine q text) next counts at =
    subst (CountsIn s (OtherLine q text)) (same_Some _ _ at) (counts ∙ ap not (sym (changed_empty _ s.events)))
counts_phase AtAnswer s (ChallengeLine proxy value) next counts at =
    subst (CountsIn s (ChallengeLine proxy value)) (same_Some _ _ at) (counts ∙ ap not (sym (changed_empty _ s.events)))
counts_phase AtKind s (KindLine kind) next counts at = subst (CountsIn s (KindLine kind)) (same_Some _ _ at) counts
counts_phase AtPrefer s (PreferLine statuses) next counts at = subst (CountsIn s (PreferLine statuses)) (same_Some _ _ at) counts
counts_phase AtPrefer s (DepthLine depth) next counts at = subst (CountsIn s (DepthLine depth)) (same_Some _ _ at) counts
counts_phase AtDepth s (DepthLine depth) next counts at = subst (CountsIn s (DepthLine depth)) (same_Some _ _ at) counts
counts_phase AtPrefer s (TargetLine q name) next counts at = subst (CountsIn s (TargetLine q name)) (same_Some _ _ at) counts
counts_phase AtDepth s (TargetLine q name) next counts at = subst (CountsIn s (TargetLine q name)) (same_Some _ _ at) counts
counts_phase AtTargets s (TargetLine q name) next counts at = subst (CountsIn s (TargetLine q name)) (same_Some _ _ at) counts
counts_phase _ s _ next counts at = absurd cc

counts_line : (phase : ScriptPhase) (s : Script) (line : lines.Line) (next : plain.Draft) → Counts (in_phase phase s) → plain.drafted_line (in_phase phase s) line ≡ Some next → Counts next
counts_line phase s line next counts due =
    found_map (λ p. in_phase p (with_line s line)) (phase_after phase line) next Counts (λ p at. counts_phase phase s line p counts at) due

counts_lines : (d next : plain.Draft) (ls : List lines.Line) → Counts d → single.drafted_lines d ls ≡ Some next → Counts next
counts_lines d next [] counts due = subst Counts (same_Some _ _ due) counts
counts_lines d next (line ∷ ls) counts due =
    found_then (λ e. single.drafted_lines e ls) (plain.drafted_line d line) next (Counts next)
    (λ e at rest. counts_lines e next ls (counts_line d.phase d.script line e counts at) rest)
    due

-- ---- the lines of a spelled script with workers may come

plain_lines : (ls : List lines.Line) → AllByRecursion IsLine (map PlainLine ls) → AllByRecursion lines.IsLine ls
plain_lines [] h = tt
plain_lines (line ∷ ls) h = (h.0, plain_lines ls h.1)

-- these lines lead to a draft in which those workers have begun
record Begun (s : Script) (draft : Draft) (ls : List Line) (scripts : List (List Event)) : Type 0 where
  end : Draft
  due : drafted_lines draft ls ≡ Some end
  work : is_at_work end.last.phase ≡ true
  kind : end.last.script.kind ≡ s.kind
  rules : end.last.script.rules ≡ s.rules
  targets : end.last.script.targets ≡ s.targets
  all : end.before ++ end.last.script.events ∷ [] ≡ draft.before ++ scripts

abbrev begun_at : Script → List (List Event) → Draft
begun_at s before = draft_of (in_phase AtEvents (with_events s [])) before

begun_drafted : (s : Script) (before : List (List Event)) (history : List Told) (workers : List (List Told)) → suc (length before) + length workers ≤ most_workers
    → AllByRecursion IsLine (map PlainLine (flat_map told_lines history) ++ flat_map worker_lines workers)
    → AllByRecursion MayStand history → AllByRecursion (AllByRecursion MayStand) workers
    → Begun s (begun_at s before) (map PlainLine (flat_map told_lines history) ++ flat_map worker_lines workers) (map history_said (history ∷ workers))
begun_drafted s before history [] few h one may =
    let ls : List lines.Line = flat_map told_lines history in
    let r = single.history_drafted AtEvents (with_events s []) history refl (plain_lines ls (all_front IsLine (map PlainLine ls) [] h)) one in
    let last : plain.Draft = in_phase r.phase (with_events s (map said history)) in
    let told = lines_at_work (in_phase AtEvents (with_events s [])) last before ls refl r.due in
    record {
      end = draft_of last before;
      due = drafted_append drafted_line (begun_at s before) (map PlainLine ls) [] (draft_of last before) told;
      work = work_stays_on (in_phase AtEvents (with_events s [])) last ls refl r.due;
      kind = refl;
      rules = refl;
      targets = refl;
      all = refl;
    }
begun_drafted s before history (next ∷ workers) few h one may =
    let ls : List lines.Line = flat_map told_lines history in
    let rest : List Line = flat_map worker_lines (next ∷ workers) in
    let behind : AllByRecursion IsLine rest = all_back IsLine (map PlainLine ls) rest h in
    let r = single.history_drafted AtEvents (with_events s []) history refl (plain_lines ls (all_front IsLine (map PlainLine ls) rest h)) one in
    let last : plain.Draft = in_phase r.phase (with_events s (map said history)) in
    let told = lines_at_work (in_phase AtEvents (with_events s [])) last before ls refl r.due in
    let work : is_at_work r.phase ≡ true = work_stays_on (in_phase AtEvents (with_events s [])) last ls refl r.due in
    let count : length (before ++ map said history ∷ []) ≡ length before + 1 = length-append before (map said history ∷ []) in
    let more = begun_drafted s (before ++ map said history ∷ []) next workers (omega arith) behind.1 may.0 may.1 in
    let begins : with_worker (draft_of last before) ≡ Some (begun_at s (before ++ map said history ∷ [])) = next_begins (draft_of last before) work (omega arith) in
    record {
      end = more.end;
      due =
          drafted_append drafted_line (begun_at s before) (map PlainLine ls) rest (draft_of last before) told
          ∙ ap (option_and_then (λ e. drafted_lines e (map PlainLine (flat_map told_lines next) ++ flat_map worker_lines workers))) begins
          ∙ more.due;
      work = more.work;
      kind = more.kind;
      rules = more.rules;
      targets = more.targets;
      all = more.all ∙ append_assoc before (map said history ∷ []) (map history_said (next ∷ workers));
    }

-- the lines lead to the script
pub record Reached (s : Spelling) : Type 0 where
  pub end : Draft
  pub due : drafted_lines no_draft (lines_of s) ≡ Some end
  pub work : is_at_work end.last.phase ≡ true
  pub same : workers_in end ≡ workers_of s

abbrev said_by : Script → List (List Event) → Workers
said_by s scripts = record { kind = s.kind; rules = s.rules; targets = s.targets; scripts = scripts }

same_workers : (s : Script) (end : Draft) (scripts : List (List Event)) → end.last.script.kind ≡ s.kind → end.last.script.rules ≡ s.rules → end.last.script.targets ≡ s.targets
    → end.before ++ end.last.script.events ∷ [] ≡ scripts → workers_in end ≡ said_by s scripts
same_workers s end scripts kind rules targets are = cc

script_drafted_as : (s : Spelling) (history : List Told) (workers : List (List Told)) → s.workers ≡ history ∷ workers → IsSpelling s → Reached s
script_drafted_as s history workers are h =
    let ls : List lines.Line = script.lines_of (forked s) in
    let rest : List Line = flat_map worker_lines (history ∷ workers) in
    let P : List (List Told) → Type 0 = λ ws. AllByRecursion IsLine (map PlainLine ls ++ flat_map worker_lines ws) in
    let right : AllByRecursion IsLine (map PlainLine ls ++ rest) = subst P are h.lines in
    let B : List (List Told) → Type 0 = AllByRecursion (AllByRecursion MayStand) in
    let may : AllByRecursion (AllByRecursion MayStand) (history ∷ workers) = subst B are h.behind in
    let few : length (history ∷ workers) ≤ most_workers = subst (λ (ws : List (List Told)). length ws ≤ most_workers) are h.few in
    let is : script.IsSpelling (forked s) = record { lines = plain_lines ls (all_front IsLine (map PlainLine ls) rest right); behind = tt } in
    let r = single.script_drafted (forked s) is in
    let last : plain.Draft = in_phase r.phase (script_of (forked s)) in
    let quiet : is_at_work r.phase ≡ false = counts_lines plain.no_draft last ls refl r.due in
    let front = lines_before_work plain.no_draft last [] ls quiet r.due in
    let behind : AllByRecursion IsLine rest = all_back IsLine (map PlainLine ls) rest right in
    let more = begun_drafted (script_of (forked s)) [] history workers (omega arith) behind.1 may.0 may.1 in
    let begins : with_worker (draft_of last []) ≡ Some (begun_at (script_of (forked s)) []) = first_begins (draft_of last []) r.whole quiet in
    record {
      end = more.end;
      due =
          ap (λ (ws : List (List Told)). drafted_lines no_draft (map PlainLine ls ++ flat_map worker_lines ws)) are
          ∙ drafted_append drafted_line no_draft (map PlainLine ls) rest (draft_of last []) front
          ∙ ap (option_and_then (λ e. drafted_lines e (map PlainLine (flat_map told_lines history) ++ flat_map worker_lines workers))) begins
          ∙ more.due;
      work = more.work;
      same =
          same_workers (script_of (forked s)) more.end (map history_said (history ∷ workers)) more.kind more.rules more.targets more.all
          ∙ ap (λ (ws : List (List Told)). said_by (script_of (forked s)) (map history_said ws)) (sym are);
    }

pub script_drafted : (s : Spelling) → IsSpelling s → Reached s
script_drafted s h = go s.workers refl h.some
  where
    go : (workers : List (List Told)) → s.workers ≡ workers → 0 < length workers → Reached s
    go [] are some = absurd (omega arith)
    go (history ∷ workers) are some = script_drafted_as s history workers are h

-- ---- lines that may come from the first to the last are those of a spelled script with workers

record PlainTaken (last : plain.Draft) (before : List (List Event)) (line : lines.Line) (d : Draft) : Type 0 where
  next : plain.Draft
  due : plain.drafted_line last line ≡ Some next
  is : d ≡ draft_of next before
  never : is_at_work next.phase ≡ true → is_at_work last.phase ≡ false → ⊥

plain_taken : (last : plain.Draft) (before : List (List Event)) (line : lines.Line) (d : Draft) → drafted_line (draft_of last before) (PlainLine line) ≡ Some d → PlainTaken last before line d
plain_taken last before line d e =
    found_then (with_last (draft_of last before)) (plain.drafted_line last line) d (PlainTaken last before line d)
    (λ next at rest.
    let w = taken_is (is_at_work last.phase) (is_at_work next.phase) (draft_of next before) d rest in
    record { next = next; due = at; is = w.0; never = w.1 })
    e

-- behind a worker that has begun: its own lines, then those of the workers after it
record WorkFound (last : plain.Draft) (before : List (List Event)) (ls : List Line) : Type 0 where
  front : List lines.Line
  mid : plain.Draft
  due : single.drafted_lines last front ≡ Some mid
  others : List (List Told)
  spelled : map PlainLine front ++ flat_map worker_lines others ≡ ls
  behind : AllByRecursion (AllByRecursion MayStand) others
  few : suc (length before) + length others ≤ most_workers

-- the lines of a worker whose own were found
record HistoryIs (ls : List lines.Line) : Type 0 where
  history : List Told
  spelled : flat_map told_lines history ≡ ls
  behind : AllByRecursion MayStand history

history_is : (s : Script) (ls : List lines.Line) (mid : plain.Draft) → single.drafted_lines (in_phase AtEvents s) ls ≡ Some mid → HistoryIs ls
history_is s ls mid due =
    let told = single.history_found AtEvents s ls mid tt due in
    record {
      history = told.history;
      spelled = ap (λ (ds : List script.Detail). map detail_line ds ++ flat_map told_lines told.history) (sym told.open_) ∙ told.spelled;
      behind = told.behind;
    }

worker_spelled : (history : List Told) (others : List (List Told)) (front : List lines.Line) (ls : List Line) → flat_map told_lines history ≡ front → map PlainLine front ++ flat_map worker_lines others ≡ ls
    → flat_map worker_lines (history ∷ others) ≡ WorkerLine ∷ ls
worker_spelled history others front ls own rest =
    ap (λ (own : List lines.Line). WorkerLine ∷ (map PlainLine own ++ flat_map worker_lines others)) own ∙ ap (λ (t : List Line). WorkerLine ∷ t) rest

work_found : (last : plain.Draft) (before : List (List Event)) (ls : List Line) (next : Draft) → is_at_work last.phase ≡ true → suc (length before) ≤ most_workers
    → drafted_lines (draft_of last before) ls ≡ Some next → WorkFound last before ls
work_found last before [] next work few due = record { front = []; mid = last; due = refl; others = []; spelled = refl; behind = tt; few = omega arith }
work_found last before (PlainLine line ∷ ls) next work few due =
    found_then (λ d. drafted_lines d ls) (drafted_line (draft_of last before) (PlainLine line)) next (WorkFound last before (PlainLine line ∷ ls))
    (λ d at rest.
    let p = plain_taken last before line d at in
    let more = work_found p.next before ls next (work_stays last p.next line work p.due) few (subst (λ (e : Draft). drafted_lines e ls ≡ Some next) p.is rest) in
    record {
      front = line ∷ more.front;
      mid = more.mid;
      due = ap (option_and_then (λ e. single.drafted_lines e more.front)) p.due ∙ more.due;
      others = more.others;
      spelled = ap (λ (t : List Line). PlainLine line ∷ t) more.spelled;
      behind = more.behind;
      few = more.few;
    })
    due
work_found last before (WorkerLine ∷ ls) next work few due =
    found_then (λ d. drafted_lines d ls) (with_worker (draft_of last before)) next (WorkFound last before (WorkerLine ∷ ls))
    (λ d at rest.
    let w = next_of (has_kind last.phase) (is_at_work last.phase) (nat_lt (suc (length before)) most_workers) (first_worker (draft_of last before)) (next_worker (draft_of last before)) d work at in
    let room : suc (length before) < most_workers = may_more (length before) w.1 in
    let count : length (before ++ last.script.events ∷ []) ≡ length before + 1 = length-append before (last.script.events ∷ []) in
    let begun : plain.Draft = in_phase AtEvents (with_events last.script []) in
    let more = work_found begun (before ++ last.script.events ∷ []) ls next refl (omega arith) (subst (λ (e : Draft). drafted_lines e ls ≡ Some next) w.0 rest) in
    let own = history_is (with_events last.script []) more.front more.mid more.due in
    let fits : suc (length (before ++ last.script.events ∷ [])) + length more.others ≤ most_workers = more.few in
    record {
      front = [];
      mid = last;
      due = refl;
      others = own.history ∷ more.others;
      spelled = worker_spelled own.history more.others more.front ls own.spelled more.spelled;
      behind = (own.behind, more.behind);
      few = omega arith;
    })
    due

-- before the first worker: the lines of what is forked, then those of the workers
record HeadFound (last : plain.Draft) (ls : List Line) : Type 0 where
  front : List lines.Line
  mid : plain.Draft
  due : single.drafted_lines last front ≡ Some mid
  quiet : is_at_work mid.phase ≡ false
  kind : has_kind mid.phase ≡ true
  others : List (List Told)
  spelled : map PlainLine front ++ flat_map worker_lines others ≡ ls
  behind : AllByRecursion (AllByRecursion MayStand) others
  some : 0 < length others
  few : length others ≤ most_workers

head_found : (last : plain.Draft) (ls : List Line) (next : Draft) → is_at_work last.phase ≡ false → is_at_work next.last.phase ≡ true
    → drafted_lines (draft_of last []) ls ≡ Some next → HeadFound last ls
head_found last [] next quiet work due =
    absurd (true_false (is_at_work next.last.phase) work (subst (λ (d : Draft). is_at_work d.last.phase ≡ false) (same_Some _ _ due) quiet))
head_found last (PlainLine line ∷ ls) next quiet work due =
    found_then (λ d. drafted_lines d ls) (drafted_line (draft_of last []) (PlainLine line)) next (HeadFound last (PlainLine line ∷ ls))
    (λ d at rest.
    let p = plain_taken last [] line d at in
    let more = head_found p.next ls next (is_false (is_at_work p.next.phase) (λ after. p.never after quiet)) work (subst (λ (e : Draft). drafted_lines e ls ≡ Some next) p.is rest) in
    record {
      front = line ∷ more.front;
      mid = more.mid;
      due = ap (option_and_then (λ e. single.drafted_lines e more.front)) p.due ∙ more.due;
      quiet = more.quiet;
      kind = more.kind;
      others = more.others;
      spelled = ap (λ (t : List Line). PlainLine line ∷ t) more.spelled;
      behind = more.behind;
      some = more.some;
      few = more.few;
    })
    due
head_found last (WorkerLine ∷ ls) next quiet work due =
    found_then (λ d. drafted_lines d ls) (with_worker (draft_of last [])) next (HeadFound last (WorkerLine ∷ ls))
    (λ d at rest.
    let w = first_of (has_kind last.phase) (is_at_work last.phase) (nat_lt (suc 0) most_workers) (first_worker (draft_of last [])) (next_worker (draft_of last [])) d quiet at in
    let begun : plain.Draft = in_phase AtEvents last.script in
    let more = work_found begun [] ls next refl (omega arith) (subst (λ (e : Draft). drafted_lines e ls ≡ Some next) w.0 rest) in
    let own = history_is last.script more.front more.mid more.due in
    let fits : suc 0 + length more.others ≤ most_workers = more.few in
    record {
      front = [];
      mid = last;
      due = refl;
      quiet = quiet;
      kind = w.1;
      others = own.history ∷ more.others;
      spelled = worker_spelled own.history more.others more.front ls own.spelled more.spelled;
      behind = (own.behind, more.behind);
      some = omega arith;
      few = omega arith;
    })
    due

pub record WholeFound (ls : List Line) (next : Draft) : Type 0 where
  pub script : Spelling
  pub is : IsSpelling script
  pub spelled : lines_of script ≡ ls
  pub same : workers_of script ≡ workers_in next

empty_is : (b : Bool) (history : List Told) → b ≡ not (is_empty (map said history)) → b ≡ false → history ≡ []
empty_is b [] counts quiet = refl
empty_is b (told ∷ history) counts quiet = absurd cc

pub whole_found : (ls : List Line) (next : Draft) → AllByRecursion IsLine ls → drafted_lines no_draft ls ≡ Some next → is_at_work next.last.phase ≡ true → WholeFound ls next
whole_found ls next right due work =
    let P : List Line → Type 0 = AllByRecursion IsLine in
    let h = head_found plain.no_draft ls next refl work due in
    let front : AllByRecursion lines.IsLine h.front = plain_lines h.front (all_front IsLine (map PlainLine h.front) (flat_map worker_lines h.others) (subst P (sym h.spelled) right)) in
    let w = single.whole_found h.front h.mid front h.due h.kind in
    let counts : Counts h.mid = counts_lines plain.no_draft h.mid h.front refl h.due in
    let seen : is_at_work h.mid.phase ≡ not (is_empty (script_of w.script).events) = counts ∙ ap (λ (s : Script). not (is_empty s.events)) (sym w.same) in
    let none : w.script.history ≡ [] = empty_is (is_at_work h.mid.phase) w.script.history seen h.quiet in
    let s : Spelling = record { kind = w.script.kind; prefer = w.script.prefer; depth = w.script.depth; targets = w.script.targets; workers = h.others } in
    let forked_is : forked s ≡ w.script =
    ap (λ (history : List Told). record { kind = w.script.kind; prefer = w.script.prefer; depth = w.script.depth; targets = w.script.targets; history = history }) (sym none) in
    let spelled : lines_of s ≡ ls =
    ap (λ (p : script.Spelling). map PlainLine (script.lines_of p) ++ flat_map worker_lines h.others) forked_is
    ∙ ap (λ (own : List lines.Line). map PlainLine own ++ flat_map worker_lines h.others) w.spelled
    ∙ h.spelled in
    let is : IsSpelling s = record { lines = subst P (sym spelled) right; behind = h.behind; some = h.some; few = h.few } in
    let r = script_drafted s is in
    let end : r.end ≡ next = same_Some _ _ (sym r.due ∙ ap (drafted_lines no_draft) spelled ∙ due) in
    record { script = s; is = is; spelled = spelled; same = sym r.same ∙ ap workers_in end }

-- ---- lines that may come are the first of some script with workers

record Completed (draft : Draft) : Type 0 where
  more : List Line
  right : AllByRecursion IsLine more
  next : Draft
  due : drafted_lines draft more ≡ Some next
  work : is_at_work next.last.phase ≡ true

as_it_is : (phase : ScriptPhase) (s : Script) (before : List (List Event)) → is_at_work phase ≡ true → Completed (draft_of (in_phase phase s) before)
as_it_is phase s before work = record { more = []; right = tt; next = draft_of (in_phase phase s) before; due = refl; work = work }

by_worker : (phase : ScriptPhase) (s : Script) (before : List (List Event)) → has_kind phase ≡ true → is_at_work phase ≡ false → Completed (draft_of (in_phase phase s) before)
by_worker phase s before kind quiet = record {
  more = WorkerLine ∷ [];
  right = (tt, tt);
  next = first_worker (draft_of (in_phase phase s) before);
  due = ap (option_and_then (λ e. drafted_lines e [])) (first_begins (draft_of (in_phase phase s) before) kind quiet);
  work = refl;
}

completed_by : (phase : ScriptPhase) (s : Script) (before : List (List Event)) → Completed (draft_of (in_phase phase s) before)
completed_by AtKind s before =
    let more = by_worker AtPrefer (with_line s (KindLine Invite)) before refl refl in
    record {
      more = PlainLine (KindLine Invite) ∷ more.more;
      right = (tt, more.right);
      next = more.next;
      due = more.due;
      work = more.work;
    }
completed_by AtPrefer s before = by_worker AtPrefer s before refl refl
completed_by AtDepth s before = by_worker AtDepth s before refl refl
completed_by AtTargets s before = by_worker AtTargets s before refl refl
completed_by AtEvents s before = as_it_is AtEvents s before refl
completed_by AtAnswer s before = as_it_is AtAnswer s before refl

pub begins : (ls : List Line) (draft : Draft) → AllByRecursion IsLine ls → drafted_lines no_draft ls ≡ Some draft → Begins ls
begins ls draft right due =
    let c = completed_by draft.last.phase draft.last.script draft.before in
    let found = whole_found (ls ++ c.more) c.next (all_append IsLine ls c.more right c.right) (drafted_append drafted_line no_draft ls c.more draft due ∙ c.due) c.work in
    record { script = found.script; is = found.is; more = c.more; whole = found.spelled }

pub begins_with : (ls : List Line) (line : Line) (draft next : Draft) → AllByRecursion IsLine ls → IsLine line → drafted_lines no_draft ls ≡ Some draft → drafted_line draft line ≡ Some next
    → Begins (ls ++ line ∷ [])
begins_with ls line draft next right fits due one =
    begins (ls ++ line ∷ []) next (all_append IsLine ls (line ∷ []) right (fits, tt))
    (drafted_append drafted_line no_draft ls (line ∷ []) draft due ∙ ap (option_and_then (λ e. drafted_lines e [])) one)

-- and the first lines of a script with workers may come
pub record LinesDue (ls : List Line) : Type 0 where
  pub right : AllByRecursion IsLine ls
  pub next : Draft
  pub due : drafted_lines no_draft ls ≡ Some next

front_due : (draft : Draft) (ls more : List Line) (end : Draft) → drafted_lines draft (ls ++ more) ≡ Some end → (next : Draft) × (drafted_lines draft ls ≡ Some next)
front_due draft [] more end due = (draft, refl)
front_due draft (line ∷ ls) more end due =
    found_then (λ d. drafted_lines d (ls ++ more)) (drafted_line draft line) end ((next : Draft) × (drafted_lines draft (line ∷ ls) ≡ Some next))
    (λ d at rest.
    let behind = front_due d ls more end rest in
    (behind.0, ap (option_and_then (λ e. drafted_lines e ls)) at ∙ behind.1))
    due

pub lines_due : (ls : List Line) → Begins ls → LinesDue ls
lines_due ls b =
    let P : List Line → Type 0 = AllByRecursion IsLine in
    let r = script_drafted b.script b.is in
    let front = front_due no_draft ls b.more r.end (sym (ap (drafted_lines no_draft) b.whole) ∙ r.due) in
    record { right = all_front IsLine ls b.more (subst P b.whole b.is.lines); next = front.0; due = front.1 }

-- so a line behind them that no draft takes begins none
pub record NextDue (draft : Draft) (line : Line) : Type 0 where
  pub fits : IsLine line
  pub next : Draft
  pub due : drafted_line draft line ≡ Some next

pub next_due : (ls : List Line) (line : Line) (draft : Draft) → drafted_lines no_draft ls ≡ Some draft → Begins (ls ++ line ∷ []) → NextDue draft line
next_due ls line draft due b =
    let h = lines_due (ls ++ line ∷ []) b in
    let fit : AllByRecursion IsLine (line ∷ []) = all_back IsLine ls (line ∷ []) h.right in
    found_then (λ d. drafted_lines d []) (drafted_line draft line) h.next (NextDue draft line)
    (λ d at rest. record { fits = fit.0; next = d; due = at })
    (sym (drafted_append drafted_line no_draft ls (line ∷ []) draft due) ∙ h.due)
