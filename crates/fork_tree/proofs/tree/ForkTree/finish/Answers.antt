use Rattle.fork_tree.proofs.Common.{List, Some, map, ◌++◌, ap, ◌∙◌, Row, with_state, plain_state, Ended, waiting_row, Tree, length-state, arith}
use Rattle.fork_model.specs.Table as spec
use Rattle.fork_tree.proofs.Building.{started_open, state_twice}
use Rattle.fork_tree.proofs.tree.ForkTree.finish.Goals as goal

pub end-requires-clause-there : goal.end-requires-clause-there
end-requires-clause-there g c = grind (arith, started_open)

pub end-requires-clause-next : goal.end-requires-clause-next
end-requires-clause-next g c = grind (arith, length-state)

pub returns : goal.returns
returns g c =
    c.end.ensures
    ∙ ap (λ (t : Tree). record t { rows = with_state t.rows c.args.n (plain_state (Ended c.args.end)) ++ map (waiting_row (Some c.args.n)) c.args.below.new_rows }) c.start.ensures
    ∙ ap (λ (r : List Row). record { rules = c.args.self.now.rules; rows = r ++ map (waiting_row (Some c.args.n)) c.args.below.new_rows })
    (state_twice c.args.self.now.rows c.args.n spec.Trying (plain_state (Ended c.args.end)))
