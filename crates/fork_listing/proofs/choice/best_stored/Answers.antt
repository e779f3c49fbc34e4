use Rattle.fork_listing.proofs.Common.{◌∙◌, List, map, subst, RowRef, IsBest, given_row}
use Rattle.fork_tree.specs.Tree.{Tree}
use Rattle.fork_listing.proofs.TreeRows.{are_rows, best_same}
use Rattle.fork_listing.proofs.choice.best_stored.Goals as goal

pub build-requires : goal.build-requires
build-requires g c =
    are_rows c.args.rules.depth c.args.targets.now c.deref.result.now c.requires.few c.requires.placed (c.deref.ensures.value ∙ c.in_ok-rows.ensures)

pub returns : goal.returns
returns g c =
    let P : Tree → Type 0 = λ t. IsBest t.rules t.rows c.best.result in
    let Q : List RowRef → Type 0 = λ rows. IsBest c.args.rules (map given_row rows) c.best.result in
    best_same c.args.rules c.args.targets.now c.best.result
    (subst Q (c.deref.ensures.value ∙ c.in_ok-rows.ensures) (subst P c.in_ok-tree.ensures c.best.ensures))
