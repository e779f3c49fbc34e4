-- One line more.
use Rattle.std.proofs.Common.{◌≡◌, ℕ, suc, ◌+◌, ◌≤◌, Bool, true, false, cond, not, List, [], ◌∷◌, length, Option, Some, None, refl, ap, arith}
use Rattle.std.specs.Prelude.{bytes_eq, nat_lt, option_and_then, IfSome}
use Rattle.std.specs.Option.{option_map}
use Rattle.std.proofs.lemmas.List.{length-append}
use Rattle.std.proofs.lemmas.List.Sums.{sum_by_push}
use Rattle.fork_model.specs.Event.{FinalAnswer, Event}
use Rattle.fork_program.specs.declared.script.ScriptPhase.{ScriptPhase}
use Rattle.fork_program.specs.Line.{Line, KindLine, PreferLine, DepthLine, TargetLine, EventLine, ContactLine, OtherLine, ChallengeLine}
use Rattle.fork_program.specs.Reading.{read_line}
use Rattle.fork_program.specs.Script as plain
use Rattle.fork_program.specs.Script.{Script, last_changed, with_line, phase_after, has_kind}
use Rattle.fork_engine.specs.Workers.{most_workers}
use Rattle.fork_engine.specs.Spelling.{worker_text}
use Rattle.fork_engine.specs.inner.Reading.{Draft, first_worker, next_worker, with_worker, with_last, drafted, is_at_work}
use Rattle.fork_engine.specs.inner.Workers.{event_count}

-- ---- how many events there are then

changed-length : (change : FinalAnswer → FinalAnswer) (events : List Event) → length (last_changed change events) ≡ length events
changed-length change [] = refl
changed-length change (event ∷ []) = refl
changed-length change (event ∷ other ∷ events) = ap suc (changed-length change (other ∷ events))

line_adds : (script : Script) (line : Line) → length (with_line script line).events ≤ length script.events + 1
line_adds script (KindLine kind) = omega arith
line_adds script (PreferLine statuses) = omega arith
line_adds script (DepthLine depth) = omega arith
line_adds script (TargetLine q name) = omega arith
line_adds script (EventLine event) = let e = length-append script.events (event ∷ []) in omega arith
line_adds script (ContactLine q name) = let e : length (with_line script (ContactLine q name)).events ≡ length script.events = changed-length _ script.events in omega arith
line_adds script (OtherLine q text) = let e : length (with_line script (OtherLine q text)).events ≡ length script.events = changed-length _ script.events in omega arith
line_adds script (ChallengeLine proxy value) = let e : length (with_line script (ChallengeLine proxy value)).events ≡ length script.events = changed-length _ script.events in omega arith

abbrev pub AddsOne : Draft → Draft → Type 0
AddsOne draft more = event_count more ≤ event_count draft + 1

worker_adds : (draft : Draft) → IfSome (with_worker draft) (AddsOne draft)
worker_adds draft = go (not (has_kind draft.last.phase)) (not (is_at_work draft.last.phase)) (nat_lt (suc (length draft.before)) most_workers)
  where
    go : (a b c : Bool) → IfSome (cond a None (cond b (Some (first_worker draft)) (cond c (Some (next_worker draft)) None))) (AddsOne draft)
    go true b c = tt
    go false true c = omega arith
    go false false true = let e = sum_by_push length draft.before draft.last.script.events in omega arith
    go false false false = tt

last_adds : (draft : Draft) (line : Option Line) → IfSome (option_and_then (with_last draft) (option_and_then (plain.drafted_line draft.last) line)) (AddsOne draft)
last_adds draft None = tt
last_adds draft (Some line) = go (phase_after draft.last.phase line)
  where
    pick : (phase : ScriptPhase) (b : Bool)
        → IfSome (cond b None (Some (record draft { last = record { phase = phase; script = with_line draft.last.script line } }))) (AddsOne draft)
    pick phase true = tt
    pick phase false = let e = line_adds draft.last.script line in omega arith

    go : (phase : Option ScriptPhase)
        → IfSome (option_and_then (with_last draft) (option_map (λ p. record { phase = p; script = with_line draft.last.script line }) phase)) (AddsOne draft)
    go None = tt
    go (Some phase) = pick phase _

pub drafted_adds : (draft : Draft) (line : List ℕ) → IfSome (drafted draft line) (AddsOne draft)
drafted_adds draft line = go (bytes_eq line worker_text)
  where
    go : (b : Bool) → IfSome (cond b (with_worker draft) (option_and_then (with_last draft) (plain.drafted draft.last line))) (AddsOne draft)
    go true = worker_adds draft
    go false = last_adds draft (read_line line)
