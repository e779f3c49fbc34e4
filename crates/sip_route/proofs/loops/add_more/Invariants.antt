use Rattle.sip_route.proofs.Common.{◌≡◌, ◌++◌, List, ℕ, Holds, behind_commas}
use Rattle.sip_route.proofs.loops.add_more.Given as goal

abbrev pub invariant-loop-value : goal.invariant-loop-value
invariant-loop-value l =
    goal.iterator-loop-value.can_next l.values ×
    goal.iterator-loop-value.is_finite l.values ×
    ((m : List ℕ) → Holds l.fn.hasher m → (so : List ℕ) × Holds l.hasher (m ++ so) × (so ++ behind_commas l.values ≡ behind_commas l.initial.values))
