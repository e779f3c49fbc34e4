use Rattle.fork_program.proofs.Common.{◌≡◌, ◌++◌, ◌∙◌, List, ℕ, ap, sym, subst, Script, IsForkReplay, IsDone, TellsOneFinal}
use Rattle.fork_program.specs.Headline.{IsNotDone, TellsNoFinal}
use Rattle.fork_program.proofs.SpelledScripts.{ok_is}
use Rattle.fork_program.proofs.replay.replay_text.Goals as goal

pub returns-clause-one_final : goal.returns-clause-one_final
returns-clause-one_final g c script spells done =
    let same : c.in_ok-script.script ≡ script = sym (ok_is (c.in_ok-script.ensures.only script spells)) in
    let P : Script → Type 0 = λ s. IsDone s → TellsOneFinal s c.in_ok-printed.printed.items in
    let grown : c.extend_from_slice.new.self.items ≡ c.args.out.now.items ++ c.in_ok-printed.printed.items =
    c.in_ok-extend_from_slice.ensures.items ∙ ap (λ (more : List ℕ). c.args.out.now.items ++ more) c.deref.ensures.value in
    (c.in_ok-printed.printed.items, grown, subst P same c.in_ok-printed.ensures.one_final done)

pub returns-clause-no_final : goal.returns-clause-no_final
returns-clause-no_final g c script spells open_ =
    let same : c.in_ok-script.script ≡ script = sym (ok_is (c.in_ok-script.ensures.only script spells)) in
    let P : Script → Type 0 = λ s. IsNotDone s → TellsNoFinal s c.in_ok-printed.printed.items in
    let grown : c.extend_from_slice.new.self.items ≡ c.args.out.now.items ++ c.in_ok-printed.printed.items =
    c.in_ok-extend_from_slice.ensures.items ∙ ap (λ (more : List ℕ). c.args.out.now.items ++ more) c.deref.ensures.value in
    (c.in_ok-printed.printed.items, grown, subst P same c.in_ok-printed.ensures.no_final open_)

pub returns-clause-right_listing : goal.returns-clause-right_listing
returns-clause-right_listing g c script spells done =
    let same : c.in_ok-script.script ≡ script = sym (ok_is (c.in_ok-script.ensures.only script spells)) in
    let P : Script → Type 0 = λ s. IsForkReplay s c.in_ok-printed.printed.items in
    let grown : c.extend_from_slice.new.self.items ≡ c.args.out.now.items ++ c.in_ok-printed.printed.items =
    c.in_ok-extend_from_slice.ensures.items ∙ ap (λ (more : List ℕ). c.args.out.now.items ++ more) c.deref.ensures.value in (
      c.in_ok-printed.printed.items,
      grown,
      c.replays_are_answered_yes.ensures.right c.args.text.now c.in_ok-printed.printed.items script spells (subst P same c.in_ok-printed.ensures.ok) done,
    )
