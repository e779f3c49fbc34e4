use Rattle.fork_tree.proofs.Common.{ℕ, List, None, length, map, arith, ap, sym, subst, new_rows_of, waiting_row, Tree, IsStanding}
use Rattle.fork_tree.proofs.Runs.{standing_first, half_length}
use Rattle.fork_tree.proofs.build.standing.Goals as goal

pub new-requires : goal.new-requires
new-requires g c = record { few = omega (arith, ap length c.deref.ensures.value, c.in_ok-qs.ensures.few, c.requires.few) }

pub loop-tree-init : goal.loop-tree-init
loop-tree-init g c =
    let P : Tree → Type 0 = λ t. IsStanding t.rows c.args.rows.now in
    let Q : List ℕ → Type 0 = λ y. IsStanding (map (waiting_row None) (new_rows_of y)) c.args.rows.now in
    record {
      standing = subst P (sym c.in_ok-tree.ensures) (subst Q (sym c.deref.ensures.value) (standing_first c.args.rows.now c.in_ok-qs.qs.items c.requires c.in_ok-qs.ensures));
      rules = ap (λ (t : Tree). t.rules) c.in_ok-tree.ensures;
    }

pub returns-clause-count : goal.returns-clause-count
returns-clause-count g c = grind (arith, half_length)
