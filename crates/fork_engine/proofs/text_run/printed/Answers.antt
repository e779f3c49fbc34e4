use Rattle.std.proofs.Common.{◌≡◌, ◌∙◌, List, map, ap, sym, subst}
use Rattle.std.proofs.lemmas.Result.{err_from_is_err_and}
use Rattle.fork_model.specs.History.{Target, opening}
use Rattle.context_values.specs.EventView.{event_of}
use Rattle.fork_rank.specs.KindView.{kind_of}
use Rattle.fork_engine.specs.Workers.{Workers}
use Rattle.fork_engine.specs.TextFaults.{IsRunFault, PrintsRun}
use Rattle.fork_engine.specs.TornBooks.{IsTrueRunFault}
use Rattle.fork_engine.proofs.Running.{is_fork, first_not_torn, first_run_refused, run_refused, is_printed, run_ends_right}
use Rattle.fork_engine.proofs.text_run.printed.Goals as goal

pub returns-in_ok-append_ending-in-Ok-clause-ok : goal.returns-in_ok-append_ending-in-Ok-clause-ok
returns-in_ok-append_ending-in-Ok-clause-ok g c =
    let inside = c.workers.inside in
    let shown : Workers = record { kind = kind_of inside.kind; rules = inside.rules; targets = inside.targets.items; scripts = map (λ s. map event_of s.items) inside.scripts.items } in
    let opens : opening (kind_of inside.kind) inside.rules c.deref.result.now ≡ c.in-Ok.book.opening =
    ap (λ (targets : List Target). opening (kind_of inside.kind) inside.rules targets) c.deref.ensures.value ∙ sym c.in-Ok.ensures.opened in
    let right : PrintsRun shown c.append_ending.new.text.items =
    record {
      fork = is_fork inside.targets.items (λ e. absurd (c.in-Ok.ensures.none.1 e)) (λ e. absurd (c.in-Ok.ensures.many.1 e)) (λ e. absurd (c.in-Ok.ensures.twice.1 e));
      log = c.in-Ok.book;
      run = record { opened = c.in-Ok.ensures.opened; mixed = c.in-Ok.ensures.mixed; answered = c.in-Ok.ensures.log.answered };
      right = is_printed c.in-Ok.book c.context.result.now _ _ _ _ _ c.context.ensures.stands opens c.new-text.ensures.items c.in_ok-append_first.ensures.appended c.in_ok-append_posts-in-Ok.ensures c.in_ok-append_ending-in-Ok.ensures.appended;
      listed = run_ends_right c.replays_are_answered_yes.ensures.short c.in-Ok.book c.context.result.now _ _ c.context.ensures.stands c.in_ok-append_ending-in-Ok.ensures.appended;
    }
    in
    let P : Workers → Type 0 = λ w. PrintsRun w c.append_ending.new.text.items in
    subst P c.workers.view_is right

pub returns-in-Err-clause-fault : goal.returns-in-Err-clause-fault
returns-in-Err-clause-fault g c =
    let inside = c.workers.inside in
    let shown : Workers = record { kind = kind_of inside.kind; rules = inside.rules; targets = inside.targets.items; scripts = map (λ s. map event_of s.items) inside.scripts.items } in
    let right = run_refused shown c.in-Err.fault c.in-Err.ensures.none c.in-Err.ensures.many c.in-Err.ensures.twice c.in-Err.ensures.fault in
    let P : Workers → Type 0 = λ w. IsTrueRunFault w c.fault_of.result in
    subst P c.workers.view_is (subst (IsTrueRunFault shown) (sym c.fault_of.ensures) right)

pub returns-in_err-append_first-clause-fault : goal.returns-in_err-append_first-clause-fault
returns-in_err-append_first-clause-fault g c =
    let inside = c.workers.inside in
    let shown : Workers = record { kind = kind_of inside.kind; rules = inside.rules; targets = inside.targets.items; scripts = map (λ s. map event_of s.items) inside.scripts.items } in
    let p = err_from_is_err_and c.from_residual-in_err-append_first.result c.from_residual-in_err-append_first.ensures.1 in
    let P : Workers → Type 0 = λ w. IsRunFault w c.in_err-append_first.field-0.0 in
    let is : P c.args.workers =
    subst P c.workers.view_is (first_run_refused shown c.deref.result.now c.in_err-append_first.field-0.0 c.deref.ensures.value c.in_err-append_first.ensures.fault)
    in
    let fault = c.in_err-append_first.field-0.0 in
    rw (p.1, p.2) (is, first_not_torn c.deref.result.now fault c.in_err-append_first.ensures.fault)

pub returns-in_err-append_ending-in-Ok-clause-fault : goal.returns-in_err-append_ending-in-Ok-clause-fault
returns-in_err-append_ending-in-Ok-clause-fault g c =
    let p = err_from_is_err_and c.from_residual-in_err-append_ending-in-Ok.result c.from_residual-in_err-append_ending-in-Ok.ensures.1 in
    rw (p.1, p.2) (tt, λ e. absurd cc)
