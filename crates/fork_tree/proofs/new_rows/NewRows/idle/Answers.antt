use Rattle.fork_tree.proofs.Common.{◌≡◌, ◌∙◌, arith, ap, length, None}
use Rattle.fork_tree.proofs.Opening.{new_rows_count}
use Rattle.fork_tree.proofs.new_rows.NewRows.idle.Goals as goal
use Rattle.fork_tree.proofs.new_rows.NewRows.idle.Goals.{then-count-gt0, else-count-gt0}

pub invariant_of-result : goal.invariant_of-result
invariant_of-result g c =
    let many : length c.in_ok-level.new_rows.items ≡ length c.args.qs.now = ap length c.in_ok-level.ensures.new_rows ∙ new_rows_count None 0 0 c.args.qs.now in
    record {
      added = record {
        waiting_row = c.in_ok-level.ensures.level;
        rising = (c.args.qs.now, c.in_ok-level.ensures.new_rows);
        few = omega (arith, c.requires.few, ap length c.in_ok-level.ensures.new_rows, new_rows_count None 0 0 c.args.qs.now);
      };
      room = record {
        rows = c.if-count-gt0.rows;
        has = c.in_ok-room.ensures;
        enough = elim c.if-count-gt0.branch [
          | then-count-gt0 w ↦ (λ some. omega (arith, many, w.rows-is))
          | else-count-gt0 w ↦ (λ some. absurd (omega (arith, many, some, w.if-count-gt0)))
        ];
      };
    }
