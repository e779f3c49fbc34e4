-- Closing the tree closes each row.
use Rattle.fork_tree.proofs.Common.{◌≡◌, ℕ, suc, List, [], ◌∷◌, map, Option, Some, None, refl, ap, sym, ◌∙◌, Rules, NodePlace, State, closed_state, Cell, Entry, find, in_standing, path_of, arith, rows_from, rows_of, number_of, IsPlaced, closed_row}
use Rattle.fork_tree.proofs.Common.{closed_standing, closed_entry, AreListed, AreRanked, kept_of, common_steps, rules}

abbrev pub closed_cell : Option Cell → Option Cell
closed_cell None = None
closed_cell (Some c) = Some (in_standing (closed_standing c.standing) c)

pub find_closed : (root : List Entry) (p : List ℕ) → find (map closed_entry root) p ≡ closed_cell (find root p)
find_closed [] p = refl
find_closed (e ∷ es) p = grind (arith, find_closed es p)

number_closed : (c : Option Cell) → number_of (closed_cell c) ≡ number_of c
number_closed c = grind arith

pub closed_placed : (all : List NodePlace) (root : List Entry) → IsPlaced all root → IsPlaced all (map closed_entry root)
closed_placed all root h n lt = ap number_of (find_closed root (path_of all n)) ∙ number_closed (find root (path_of all n)) ∙ h n lt

pub rows_closed : (all : List NodePlace) (root : List Entry) (k : ℕ) (ps : List NodePlace) → rows_from all (map closed_entry root) k ps ≡ map closed_row (rows_from all root k ps)
rows_closed all root k [] = refl
rows_closed all root k (p ∷ ps) = grind (arith, find_closed, rows_closed all root (suc k) ps)

pub whole_closed : (all : List NodePlace) (root : List Entry) → rows_of all (map closed_entry root) ≡ map closed_row (rows_of all root)
whole_closed all root = rows_closed all root 0 all

pub closed_listed : (all : List NodePlace) (root es : List Entry) → AreListed all root es → AreListed all (map closed_entry root) (map closed_entry es)
closed_listed all root [] l = l
closed_listed all root (e ∷ es) l = grind (arith, common_steps, closed_listed all root es l.1, find_closed)

kept_closed_state : (rules : Rules) (n : ℕ) (s : State) → kept_of rules n (closed_state s) ≡ kept_of rules n s
kept_closed_state rules n s = grind arith

pub closed_ranked : (rules : Rules) (es : List Entry) → AreRanked rules es → AreRanked rules (map closed_entry es)
closed_ranked rules [] r = r
closed_ranked rules (e ∷ es) r = (r.0 ∙ sym (kept_closed_state rules e.cell.number e.cell.standing.state), closed_ranked rules es r.1)
