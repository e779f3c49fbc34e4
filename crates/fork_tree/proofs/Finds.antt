-- What a row shows is what stands in its node.
use Rattle.fork_tree.proofs.Common.{◌≡◌, ℕ, ◌<◌, List, [], length, Some, slice_get, arith, option_map, append-nil, NodePlace, State, plain_state, Entry, find, state_in, path_of, rows_of, IsPlaced, under, row_ref, common_steps}
use Rattle.fork_tree.specs.States.{shown}
use Rattle.fork_tree.specs.inner.Rows.{q_in}
use Rattle.fork_tree.proofs.Unders.{find_under}
use Rattle.fork_tree.proofs.Placed.{get_row}

pub shown_plain : (s : State) → shown (plain_state s) ≡ s
shown_plain s = grind arith

pub row_read : (all : List NodePlace) (root node : List Entry) (n q : ℕ) (s : State) (p : NodePlace) → IsPlaced all root → n < length all → slice_get all n ≡ Some p
    → node ≡ under (path_of all n) root → q ≡ q_in (find node []) → s ≡ state_in (find node [])
    → Some (record { no = n; parent = p.parent; group = p.group; q = q; state = s }) ≡ option_map (row_ref n) (slice_get (rows_of all root) n)
row_read all root node n q s p placed lt is f e g = grind (arith, common_steps, find_under (path_of all n) root [], append-nil (path_of all n), get_row all root 0 n all p is, shown_plain)
