use Rattle.fork_tree.proofs.Common.{◌∙◌, arith, sym}
use Rattle.fork_tree.proofs.Ways.{none_open}
use Rattle.fork_tree.proofs.tree.ForkTree.find_ready.Goals as goal
use Rattle.fork_tree.proofs.Counts.{rows_count}

pub returns-clause-few : goal.returns-clause-few
returns-clause-few g c = omega (arith, c.self.invariant.tree.few, rows_count _ c.self.inside.places.items c.self.inside.root _ c.self.view_is)

pub returns-then-open_count-eq0-clause-found : goal.returns-then-open_count-eq0-clause-found
returns-then-open_count-eq0-clause-found g c = none_open c.args.self.now.rows (sym c.open_count.ensures ∙ c.if-open_count-eq0.true)

pub returns-then-open_count-eq0-clause-few : goal.returns-then-open_count-eq0-clause-few
returns-then-open_count-eq0-clause-few g c =
    omega (arith, c.self.invariant.tree.few, rows_count _ c.self.inside.places.items c.self.inside.root _ c.self.view_is)
