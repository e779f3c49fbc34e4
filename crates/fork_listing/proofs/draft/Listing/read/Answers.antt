use Rattle.fork_listing.proofs.Common.{ℕ, Result, subst, arith, Listing, drafted, finished_draft, common_steps}
use Rattle.fork_rank.proofs.laws.Lines.{if_added, if_not_added, at_last_line, at_wrong_line, behind_line}
use Rattle.fork_listing.specs.Text.{read_listing}
use Rattle.fork_listing.specs.inner.ReadView.{GivesListing}
use Rattle.fork_listing.proofs.draft.Listing.read.Goals as goal

pub returns-in_default : goal.returns-in_default
unfolding read_listing
returns-in_default g c =
    let P : Result Listing ℕ → Type 0 = λ read. GivesListing read c.finished.result in
    subst P (at_last_line drafted finished_draft c.loop-after.number c.loop-after.draft c.loop-after.rest.now c.cut_at.result.0.now c.cut_at.result.1 _ c.in_default.is c.cut_at.ensures.value c.loop-after.invariant.0) c.finished.ensures

pub returns-then-not-branch : goal.returns-then-not-branch
unfolding read_listing
returns-then-not-branch g c =
    let none = if_not_added c.in_ok-add.field-0 c.add.new.self (drafted c.loop-after.draft c.cut_at.result.0.now) c.in_ok-add.ensures (grind arith) in
    at_wrong_line drafted finished_draft c.loop-after.number c.loop-after.draft c.loop-after.rest.now c.cut_at.result.0.now c.cut_at.result.1 c.in-Some.after _ c.in-Some.is c.cut_at.ensures.value none c.loop-after.invariant.0

pub loop-after-preserved : goal.loop-after-preserved
loop-after-preserved g c =
    let some = if_added c.in_ok-add.field-0 c.add.new.self (drafted c.loop-after.draft c.cut_at.result.0.now) c.in_ok-add.ensures (grind arith) in
    let next = behind_line drafted finished_draft c.loop-after.number c.loop-after.draft c.add.new.self c.loop-after.rest.now c.cut_at.result.0.now c.cut_at.result.1 c.in-Some.after _ c.in-Some.is c.cut_at.ensures.value some c.loop-after.invariant.0 in
    grind (arith, common_steps)
