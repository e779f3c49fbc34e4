use Rattle.service_config.proofs.Common.{◌≡◌, ◌<◌, ℕ, Result, ap, length, slice_split, is, subst, sym, arith}
use Rattle.service_config.specs.Configuration.{Draft, no_draft}
use Rattle.fork_rank.proofs.laws.Lines.{at_last_line, at_wrong_line, behind_line, if_added, if_not_added}
use Rattle.service_config.specs.ReadView.{GivesSettings}
use Rattle.service_config.specs.Settings.{Settings}
use Rattle.service_config.specs.inner.Reading.{IsSound, finished, read_from, read_settings, with_text}
use Rattle.service_config.proofs.Sound.{none_sound, text_sound}
use Rattle.service_config.proofs.draft.read_all.Goals as goal

pub finished-requires : goal.finished-requires
finished-requires g c = c.loop-after.invariant.1

pub returns-in_default : goal.returns-in_default
unfolding read_settings
returns-in_default g c =
    let P : Result Settings ℕ → Type 0 = λ read. GivesSettings read c.finished.result in
    subst P (at_last_line with_text finished c.loop-after.number c.loop-after.draft c.loop-after.rest.now c.cut_at.result.0.now c.cut_at.result.1 _ c.in_default.is c.cut_at.ensures.value c.loop-after.invariant.0) c.finished.ensures

pub returns-then-not-branch : goal.returns-then-not-branch
unfolding read_settings
returns-then-not-branch g c =
    let none = if_not_added c.in_ok-add.field-0 c.add.new.self (with_text c.loop-after.draft c.cut_at.result.0.now) c.in_ok-add.ensures (grind (arith, c.if-not-branch.true)) in
    at_wrong_line with_text finished c.loop-after.number c.loop-after.draft c.loop-after.rest.now c.cut_at.result.0.now c.cut_at.result.1 c.in-Some.after _ c.in-Some.is c.cut_at.ensures.value none c.loop-after.invariant.0

pub loop-after-init : goal.loop-after-init
loop-after-init g c =
    let same : c.in_ok-draft.draft ≡ no_draft c.args.instance c.args.streams = c.in_ok-draft.ensures in (
      ap (λ (d : Draft). read_from 1 d (slice_split (is 10) c.args.text.now)) same,
      subst IsSound (sym same) (none_sound c.args.instance c.args.streams),
      omega arith,
    )

pub loop-after-preserved : goal.loop-after-preserved
loop-after-preserved g c =
    let some = if_added c.in_ok-add.field-0 c.add.new.self (with_text c.loop-after.draft c.cut_at.result.0.now) c.in_ok-add.ensures (grind (arith, c.if-not-branch.false)) in
    let next = behind_line with_text finished c.loop-after.number c.loop-after.draft c.add.new.self c.loop-after.rest.now c.cut_at.result.0.now c.cut_at.result.1 c.in-Some.after _ c.in-Some.is c.cut_at.ensures.value some c.loop-after.invariant.0 in
    let shorter : length c.in-Some.after.now < length c.loop-after.rest.now = next.1 in (
      next.0,
      text_sound c.loop-after.draft c.add.new.self c.cut_at.result.0.now c.loop-after.invariant.1 some,
      omega arith,
    )
