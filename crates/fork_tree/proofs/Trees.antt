-- What holds of a tree after each change.
use Rattle.fork_tree.proofs.Common.{◌≡◌, ℕ, ◌+◌, ◌-◌, ◌<◌, false, IsTrue, List, [], length, map, Option, refl, ap, sym, subst, ◌∙◌, arith, Row, Rules, is_row, is_idle, with_state, State, NodePlace, Summary, has_ended, plain_state, append-nil, Entry}
use Rattle.fork_tree.proofs.Common.{unanswered, with_branch, open_of, path_of, rows_of, IsPlaced, closed_entry, IsTree, Tree, is_unended, length-map, Changes, common_steps, rules}
use Rattle.fork_tree.proofs.Closes.{kept_closed}
use Rattle.fork_tree.proofs.ClosesAll.{closed_placed, closed_listed, closed_ranked}
use Rattle.fork_tree.proofs.Placed.{one_row_changes}
use Rattle.fork_tree.proofs.Ends.{tree_ended}
use Rattle.fork_tree.proofs.RankedAnswer.{kept_none}

pub tree_set : (rules : Rules) (all : List NodePlace) (root new : List Entry) (t : Summary) (n : ℕ) (s : State) → IsTree rules all root t → n < length all → has_ended s ≡ false
    → Changes root new (path_of all n) (unanswered s) [] 1 → IsTree rules all new t
tree_set rules all root new t n s was lt waits h =
    let P : List NodePlace → Type 0 = λ x. IsTree rules x new t in
    subst P (append-nil all) (tree_ended rules all root new t t n (unanswered s) [] (length all) 1 was lt tt (sym (kept_none rules n s waits)) refl
    (omega (arith, was.few)) h refl refl)

pub rows_set : (all : List NodePlace) (root new : List Entry) (n : ℕ) (s : State) → IsPlaced all root → n < length all
    → new ≡ with_branch root (path_of all n) (unanswered s) [] → rows_of all new ≡ with_state (rows_of all root) n (plain_state s)
rows_set all root new n s placed lt e = ap (rows_of all) e ∙ one_row_changes all root n (unanswered s) [] placed (λ m lm d. refl) lt

-- the value after a change of the rows
pub value_after : (rules : Rules) (rows later : List Row) (now : Tree) (f : List Row → List Row) → record { rules = rules; rows = rows } ≡ now → later ≡ f rows
    → record { rules = rules; rows = later } ≡ record now { rows = f now.rows }
value_after rules rows later now f v e = grind arith

pub tree_closed : (rules : Rules) (all : List NodePlace) (root new : List Entry) (t : Summary) (ended : ℕ) → IsTree rules all root t → new ≡ map closed_entry root
    → open_of new + ended ≡ open_of root → IsTree rules all new (record { kept = t.kept; open_count = t.open_count - ended })
tree_closed rules all root new t ended was e count = grind (arith, common_steps, length-map root closed_entry, closed_placed, closed_listed, closed_ranked, kept_closed)

pub idle_unended : (o : Option Row) → IsTrue (is_row is_idle o) → IsTrue (is_row is_unended o)
idle_unended o h = grind arith
