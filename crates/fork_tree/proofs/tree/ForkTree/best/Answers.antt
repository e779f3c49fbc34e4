use Rattle.fork_tree.proofs.Common.{subst, sym, best_of, Tree, IsBest, refl}
use Rattle.fork_tree.proofs.RankedAnswer.{kept_is_best}
use Rattle.fork_tree.proofs.tree.ForkTree.best.Goals as goal

pub returns : goal.returns
returns g c =
    let Q : Tree → Type 0 = λ t. IsBest t.rules t.rows (best_of c.self.inside.summary.kept) in
    subst (IsBest c.args.self.now.rules c.args.self.now.rows) (sym c.best.ensures) (subst Q c.self.view_is
    (kept_is_best c.self.inside.rules _ c.self.inside.places.items c.self.inside.root c.self.inside.summary.kept refl
    c.self.invariant.tree.listed c.self.invariant.tree.ranked c.self.invariant.tree.summary.kept))
