use Rattle.fork_context.proofs.Common.{◌∙◌, ap, sym, slice_get, option_map, with_effect, event_of, arith}
use Rattle.fork_context.proofs.RowChanges.{change_of_row, may_of_row}
use Rattle.fork_context.proofs.fork.Fork.row_change_of.Goals as goal

pub returns-in_err-row-clause-change : goal.returns-in_err-row-clause-change
returns-in_err-row-clause-change g c at = grind arith

pub returns-in-Some-clause-change : goal.returns-in-Some-clause-change
returns-in-Some-clause-change g c at =
    change_of_row c.args.self.now (event_of c.args.event.now) at c.args.n c.in_ok-row.row (slice_get c.args.self.now.rows c.args.n) c.in_ok-row.ensures
    ∙ ap (option_map (with_effect c.args.self.now c.in_ok-row.row.no)) (sym (c.in-Some.ensures.effect at))

pub returns-in-Some-clause-may : goal.returns-in-Some-clause-may
returns-in-Some-clause-may g c = may_of_row c.args.self.now c.args.n c.in_ok-row.row c.in-Some.effect c.in_ok-row.ensures c.in-Some.ensures.may

pub returns-in-None-clause-change : goal.returns-in-None-clause-change
returns-in-None-clause-change g c at =
    change_of_row c.args.self.now (event_of c.args.event.now) at c.args.n c.in_ok-row.row (slice_get c.args.self.now.rows c.args.n) c.in_ok-row.ensures
    ∙ ap (option_map (with_effect c.args.self.now c.in_ok-row.row.no)) (sym (c.in-None.ensures.effect at))
