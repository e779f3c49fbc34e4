use Rattle.context_values.proofs.Common.{◌≡◌, ◌+◌, vec_len, vec_capacity, IsByKey}
use Rattle.context_values.proofs.extras_table.number_keys.Given as goal

abbrev pub invariant-loop-n : goal.invariant-loop-n
invariant-loop-n g l =
    IsByKey l.all l.n l.by_key.items
    × (vec_len l.by_key + l.first ≡ vec_len l.initial.by_key + l.n)
    × (vec_capacity l.by_key ≡ vec_capacity l.initial.by_key)
