use Rattle.std.proofs.Common.{◌≡◌, ◌∙◌, List, ◌++◌, ap}
use Rattle.std.proofs.lemmas.Result.{err_from_is_err_and}
use Rattle.fork_model.specs.Core.{Core, opening_core}
use Rattle.fork_model.specs.History.{Target}
use Rattle.fork_rank.specs.KindView.{kind_of}
use Rattle.fork_rank.specs.RuleLines.{ended}
use Rattle.fork_program.specs.Replay.{opening_text}
use Rattle.fork_engine.proofs.Running.{first_refused}
use Rattle.fork_engine.proofs.text_run.append_first.Goals as goal

pub returns-in_err-context-clause-fault : goal.returns-in_err-context-clause-fault
returns-in_err-context-clause-fault g c =
    let p = err_from_is_err_and c.from_residual-in_err-context.result c.from_residual-in_err-context.ensures.1 in
    rw (p.1, p.2) (first_refused c.args.targets.now c.in_ok-copies.copies.items c.in_err-context.field-0.0 c.in_ok-copies.ensures c.in_err-context.ensures.none c.in_err-context.ensures.many c.in_err-context.ensures.twice)

pub returns-clause-appended : goal.returns-clause-appended
returns-clause-appended g c =
    let first : Core = opening_core (kind_of c.args.kind) c.args.rules c.args.targets.now in
    let opened : c.in_ok-context.context ≡ first =
    c.in_ok-context.ensures.opened ∙ ap (λ (targets : List Target). opening_core (kind_of c.args.kind) c.args.rules targets) c.in_ok-copies.ensures in
    c.in_ok-append_opening.ensures.appended ∙ ap (λ (core : Core). c.args.text.now.items ++ ended (opening_text core.table)) opened
