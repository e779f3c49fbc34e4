use Rattle.std.proofs.Common.{◌≡◌, sym, subst}
use Rattle.fork_engine.specs.Workers.{Workers}
use Rattle.fork_engine.specs.TextFaults.{IsFork}
use Rattle.fork_engine.proofs.Done.{tells_one_final, tells_no_final}
use Rattle.fork_engine.proofs.SpelledWorkers.{ok_is}
use Rattle.fork_engine.proofs.text_run.drive_text.Goals as goal

pub returns-clause-one_final : goal.returns-clause-one_final
returns-clause-one_final g c workers log printed read run told spelled done =
    let same : c.in-Ok.workers ≡ workers = sym (ok_is (c.in-Ok.ensures.only workers read)) in
    let P : Workers → Type 0 = λ w. IsFork w.targets in
    tells_one_final c.the_choice_is_listed_first.ensures c.exactly_one_final.ensures.exactly_one workers log printed
    (subst P same c.in_ok-printed.ensures.ok.fork) run told done

pub returns-clause-no_final : goal.returns-clause-no_final
returns-clause-no_final g c workers log printed read run told spelled open_ =
    tells_no_final c.exactly_one_final.ensures.none_before c.exactly_one_final.ensures.none_beside_success workers log run open_
