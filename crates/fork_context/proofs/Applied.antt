-- Room for the numbers of a reply.
use Rattle.fork_context.proofs.Common.{◌≡◌, ◌≤◌, ℕ, ◌+◌, arith, List, [], length, vec_capacity, Row}
use Rattle.context_values.specs.declared.reply.Numbers.{Numbers}
use Rattle.fork_context.specs.inner.Stepped.{HasRoom}

-- there is room for the numbers of so many rows
pub has_room : {A : Type 0} (numbers : Numbers A) (count : ℕ) (rows : List Row) → (numbers.rows.items ≡ []) × (numbers.cancelled ≡ 0)
    → count ≤ vec_capacity numbers.rows → length rows + 1 ≤ count → HasRoom numbers rows
has_room numbers count rows none room few = grind arith
