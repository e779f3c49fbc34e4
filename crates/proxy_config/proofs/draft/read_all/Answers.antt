use Rattle.proxy_config.proofs.Common.{◌<◌, ℕ, Result, length, subst, arith, Setup, drafted, finished_draft, GivesSetup}
use Rattle.fork_rank.proofs.laws.Lines.{if_added, if_not_added, at_last_line, at_wrong_line, behind_line}
use Rattle.proxy_config.specs.inner.Reading.{read_setup}
use Rattle.proxy_config.proofs.DraftedLines.{drafted_next, drafted_sound}
use Rattle.proxy_config.proofs.draft.read_all.Goals as goal

pub finished-requires : goal.finished-requires
finished-requires g c = drafted_sound c.loop-after.draft c.loop-after.invariant.1

pub returns-in_default : goal.returns-in_default
unfolding read_setup
returns-in_default g c =
    let P : Result Setup ℕ → Type 0 = λ read. GivesSetup read c.finished.result in
    subst P (at_last_line drafted finished_draft c.loop-after.number c.loop-after.draft c.loop-after.rest.now c.cut_at.result.0.now c.cut_at.result.1 _ c.in_default.is c.cut_at.ensures.value c.loop-after.invariant.0) c.finished.ensures

pub returns-then-not-branch : goal.returns-then-not-branch
unfolding read_setup
returns-then-not-branch g c =
    let none = if_not_added c.in_ok-add.field-0 c.add.new.self (drafted c.loop-after.draft c.cut_at.result.0.now) c.in_ok-add.ensures (grind (arith, c.if-not-branch.true)) in
    at_wrong_line drafted finished_draft c.loop-after.number c.loop-after.draft c.loop-after.rest.now c.cut_at.result.0.now c.cut_at.result.1 c.in-Some.after _ c.in-Some.is c.cut_at.ensures.value none c.loop-after.invariant.0

pub loop-after-preserved : goal.loop-after-preserved
loop-after-preserved g c =
    let some = if_added c.in_ok-add.field-0 c.add.new.self (drafted c.loop-after.draft c.cut_at.result.0.now) c.in_ok-add.ensures (grind (arith, c.if-not-branch.false)) in
    let next = behind_line drafted finished_draft c.loop-after.number c.loop-after.draft c.add.new.self c.loop-after.rest.now c.cut_at.result.0.now c.cut_at.result.1 c.in-Some.after _ c.in-Some.is c.cut_at.ensures.value some c.loop-after.invariant.0 in
    let shorter : length c.in-Some.after.now < length c.loop-after.rest.now = next.1 in (
      next.0,
      drafted_next c.loop-after.draft c.add.new.self c.cut_at.result.0.now c.loop-after.invariant.1 some,
      omega arith,
    )
