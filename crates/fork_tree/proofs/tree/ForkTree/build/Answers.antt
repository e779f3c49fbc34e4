use Rattle.fork_tree.proofs.Common.{ℕ, slice_get, arith, sym, subst, IsHalf}
use Rattle.fork_tree.proofs.Runs.{half_at, settled_next, all_settled}
use Rattle.fork_tree.proofs.tree.ForkTree.build.Goals as goal

pub loop-i-init : goal.loop-i-init
loop-i-init g c = grind arith

pub settle-requires-clause-few : goal.settle-requires-clause-few
settle-requires-clause-few g c = omega (arith, c.loop-i.invariant.count, c.requires.few)

pub settle-requires-clause-half : goal.settle-requires-clause-half
settle-requires-clause-half g c =
    subst (λ (k : ℕ). IsHalf (slice_get c.loop-i.tree.rows k) c.row_at-row.result.state) (sym (c.requires.number c.loop-i.i c.row_at-row.result c.row_at-row.ensures))
    (half_at c.loop-i.tree.rows c.args.rows.now c.loop-i.i c.row_at-row.result c.loop-i.invariant.half c.loop-i.invariant.count c.row_at-row.ensures)

pub loop-i-preserved : goal.loop-i-preserved
loop-i-preserved g c =
    settled_next c.args.rules c.args.rows.now c.loop-i.i c.loop-i.tree c.settle.new.self c.row_at-row.result c.requires c.loop-i.invariant c.row_at-row.ensures c.in_ok-settle.ensures

pub returns : goal.returns
returns g c = all_settled c.args.rules c.args.rows.now c.loop-i.i c.loop-i.tree c.loop-i.invariant (omega (arith, c.loop-i-test.false))
