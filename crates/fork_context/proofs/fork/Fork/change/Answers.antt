use Rattle.fork_context.proofs.Common.{◌∙◌, Some, ap, subst, event_of, changed, option_map, MayChange, IfOk-weaker, common_steps, arith}
use Rattle.std.proofs.Common.{drop, take, take_all}
use Rattle.std.proofs.lemmas.List.{drop_all}
use Rattle.fork_context.proofs.StepLaws.{stray_numbers, cancel_step, still_there, row_step}
use Rattle.fork_context.proofs.fork.Fork.change.Goals as goal

pub returns-in_default-clause-ok : goal.returns-in_default-clause-ok
returns-in_default-clause-ok g c =
    let t = c.args.self.now in
    let changes = c.change_of.ensures.change c.args.at ∙ ap (λ o. option_map (changed t c.args.at) o) c.in_default.is in
    IfOk-weaker c.with_room.result _ _ (λ numbers none. stray_numbers t (event_of c.args.event.now) c.args.at numbers changes none) c.with_room.ensures.none

pub returns-in_ok-numbers-in-Closes-clause-ok : goal.returns-in_ok-numbers-in-Closes-clause-ok
returns-in_ok-numbers-in-Closes-clause-ok g c =
    let t = c.args.self.now in
    let changes = c.in-Some.ensures.change c.args.at ∙ ap (λ x. Some (changed t c.args.at x)) c.in-Closes.is in
    let shut = c.shut.new.cancelled.items in
    let count = c.len.result in
    cancel_step t (event_of c.args.event.now) c.args.at c.shut.new.self (drop count shut) (take count shut) c.requires.series changes
    c.shut.ensures.rows (drop_all count shut (omega arith)) (take_all count shut (omega arith) ∙ c.shut.ensures.numbers)

pub settle-requires-clause-there : goal.settle-requires-clause-there
settle-requires-clause-there g c = grind (arith, common_steps, still_there)

pub returns-in_ok-numbers-in-Row-clause-ok : goal.returns-in_ok-numbers-in-Row-clause-ok
returns-in_ok-numbers-in-Row-clause-ok g c =
    let t = c.args.self.now in
    let changes = c.in-Some.ensures.change c.args.at ∙ ap (λ x. Some (changed t c.args.at x)) c.in-Row.is in
    row_step t (event_of c.args.event.now) c.args.at c.in-Row.row c.in-Row.effect c.apply.new.self c.settle.new.self (drop c.settle.new.numbers.cancelled c.settle.new.numbers.rows.items) (take c.settle.new.numbers.cancelled c.settle.new.numbers.rows.items)
    c.closed-was_closed.result c.cancels-cancels.result c.requires.series c.requires.whole changes (subst (MayChange t) c.in-Row.is c.in-Some.ensures.may)
    c.in_ok-numbers-in-Row.ensures.ok c.closed-was_closed.ensures c.cancels-cancels.ensures c.settle.ensures
