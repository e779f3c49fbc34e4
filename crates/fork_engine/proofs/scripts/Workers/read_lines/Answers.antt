use Rattle.std.proofs.Common.{◌≡◌, ◌∙◌, ◌<◌, ◌≤◌, ◌+◌, ℕ, Option, Some, None, Result, length, sym, subst, arith}
use Rattle.std.specs.Prelude.{IfSome}
use Rattle.fork_rank.proofs.laws.Lines.{at_last_line, at_wrong_line, behind_line}
use Rattle.fork_engine.specs.Workers.{Workers}
use Rattle.fork_engine.specs.inner.Reading.{Draft, drafted, finished_draft, read_workers}
use Rattle.fork_engine.specs.inner.Workers.{event_count}
use Rattle.fork_engine.specs.inner.ReadView.{GivesWorkers}
use Rattle.fork_engine.proofs.Drafting.{AddsOne, drafted_adds}
use Rattle.fork_engine.proofs.scripts.Workers.read_lines.Goals as goal

pub returns-in_default : goal.returns-in_default
unfolding read_workers
returns-in_default g c =
    let P : Result Workers ℕ → Type 0 = λ read. GivesWorkers read c.finished.result in
    subst P (at_last_line drafted finished_draft c.loop-after.number c.loop-after.draft c.loop-after.rest.now c.cut_at.result.0.now c.cut_at.result.1 _ c.in_default.is c.cut_at.ensures.value c.loop-after.invariant.0) c.finished.ensures

pub returns-in_default-2 : goal.returns-in_default-2
unfolding read_workers
returns-in_default-2 g c =
    let none : drafted c.loop-after.draft c.cut_at.result.0.now ≡ None = sym c.in_ok-next.ensures ∙ c.in_default-2.is in
    at_wrong_line drafted finished_draft c.loop-after.number c.loop-after.draft c.loop-after.rest.now c.cut_at.result.0.now c.cut_at.result.1 c.in-Some.after _ c.in-Some.is c.cut_at.ensures.value none c.loop-after.invariant.0

pub loop-after-preserved : goal.loop-after-preserved
loop-after-preserved g c =
    let next : Draft = c.in-Some-2.next in
    let some : drafted c.loop-after.draft c.cut_at.result.0.now ≡ Some next = sym c.in_ok-next.ensures ∙ c.in-Some-2.is in
    let Q : Option Draft → Type 0 = λ d. IfSome d (AddsOne c.loop-after.draft) in
    let adds : event_count next ≤ event_count c.loop-after.draft + 1 = subst Q some (drafted_adds c.loop-after.draft c.cut_at.result.0.now) in
    let on = behind_line drafted finished_draft c.loop-after.number c.loop-after.draft next c.loop-after.rest.now c.cut_at.result.0.now c.cut_at.result.1 c.in-Some.after _ c.in-Some.is c.cut_at.ensures.value some c.loop-after.invariant.0 in
    let shorter : length c.in-Some.after.now < length c.loop-after.rest.now = on.1 in (
      on.0,
      omega arith,
      omega arith,
    )
