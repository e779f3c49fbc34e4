-- No part is larger than all together.
use Rattle.std.specs.Prelude.{◌≡◌, ℕ, ◌+◌, ◌*◌, ◌≤◌, suc, List, [], ◌∷◌, length, map}
use Rattle.std.proofs.Common.{arith, length-append}
use Rattle.fork_tree.specs.Rows.{Entry}
use Rattle.fork_tree.specs.inner.Rows.{pushed, joined}
use denote.Param.Weighed.{most}

pub length_pushed : (k : ℕ) (rows : List Entry) → length (map (pushed k) rows) ≡ length rows
length_pushed k [] = omega arith
length_pushed k (e ∷ es) = omega (arith, length_pushed k es)

pub most_nodes : (k : ℕ) (parts : List (List Entry)) → most (λ p. 3 * length p + 1) parts ≤ 3 * length (joined k parts) + 1
most_nodes k [] = omega arith
most_nodes k (p ∷ ps) =
    omega (arith, most_nodes (suc k) ps, length-append (map (pushed k) p) (joined (suc k) ps), length_pushed k p)

pub most_groups : (k : ℕ) (parts : List (List Entry)) → most (λ p. 3 * length p + 1 + 1) parts ≤ 3 * length (joined k parts) + 2
most_groups k [] = omega arith
most_groups k (p ∷ ps) =
    omega (arith, most_groups (suc k) ps, length-append (map (pushed k) p) (joined (suc k) ps), length_pushed k p)
