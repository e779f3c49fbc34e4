use Rattle.fork_rank.proofs.TextCommon.{◌≡◌, ◌∷◌, ◌++◌, flat_map, decimal}
use Rattle.std.proofs.Common.{take}
use Rattle.fork_rank.proofs.rules_text.append_list.Given as goal

abbrev pub invariant-loop-number : goal.invariant-loop-number
invariant-loop-number g l =
    l.text.items ≡ l.initial.text.items ++ flat_map (λ n. 44 ∷ decimal n) (take l.number-index l.more)
