use Rattle.fork_tree.proofs.Common.{◌≡◌, ℕ, List, true, false, length, map, take, drop, arith, sym, subst, RowRef, q_of}
use Rattle.fork_tree.proofs.Runs.{run_more, all_more, run_ends, past_end}
use Rattle.fork_tree.proofs.build.siblings.Goals as goal

true_false : true ≡ false → ⊥
true_false e = cc

pub loop-i-preserved : goal.loop-i-preserved
loop-i-preserved g c =
    let x : RowRef = c.row_at-row.result in
    record {
      count = omega (arith, c.loop-i.invariant.count, c.in_ok-push.ensures.len);
      each = subst (λ (y : List ℕ). y ≡ map q_of (take (length y) (drop c.args.first c.args.rows.now))) (sym c.in_ok-push.ensures.items)
          (run_more c.args.rows.now c.args.first c.loop-i.i c.loop-i.qs.items x c.loop-i.invariant.count c.loop-i.invariant.each c.row_at-row.ensures);
      all = all_more c.args.rows.now c.args.parent c.args.first c.loop-i.i x c.loop-i.invariant.all c.row_at-row.ensures
          (c.stands_under.ensures.0 c.if-not-stands_under.false);
    }

pub returns-then-not-stands_under : goal.returns-then-not-stands_under
returns-then-not-stands_under g c = grind arith

pub returns : goal.returns
returns g c =
    run_ends c.args.rows.now c.args.parent c.args.first c.loop-i.i c.loop-i.qs.items c.loop-i.invariant.count c.loop-i.invariant.each c.loop-i.invariant.all
    (omega arith) (λ r is e. past_end c.args.rows.now c.loop-i.i r (omega (arith, c.loop-i-test.false)) is)
