-- For any rules the order of stored answers is strict and total on arrivals (RFC 3261 section 16.7 step 6: one
-- response is the best).
use Rattle.std.specs.Prelude.{◌≢◌, ◌⊎◌}
use Rattle.fork_model.specs.Table.{Rules}
use Rattle.fork_model.specs.Rank.{Rank, RanksBefore, Score, Before}

-- no answer goes before itself
abbrev pub Irreflexive : Type 0
Irreflexive = (rules : Rules) (a : Score) → Before rules a a → ⊥

abbrev pub Transitive : Type 0
Transitive = (rules : Rules) (a b c : Score) → Before rules a b → Before rules b c → Before rules a c

-- of two answers that arrived apart one goes before the other
abbrev pub TotalOnArrivals : Type 0
TotalOnArrivals = (rules : Rules) (a b : Score) → a.arrival ≢ b.arrival → Before rules a b ⊎ Before rules b a

abbrev pub Decided : Type 0
Decided = (rules : Rules) (a b : Score) → Before rules a b ⊎ (Before rules a b → ⊥)

-- what goes before a kept answer goes before each answer that does not
abbrev pub BeforeTheRest : Type 0
BeforeTheRest =
    (rules : Rules) (first kept other : Score) → Before rules first kept → (Before rules other kept → ⊥) → Before rules first other

-- ---- the same of ranks themselves, whichever rules gave them

abbrev pub IrreflexiveOnRanks : Type 0
IrreflexiveOnRanks = (a : Rank) → RanksBefore a a → ⊥

abbrev pub TransitiveOnRanks : Type 0
TransitiveOnRanks = (a b c : Rank) → RanksBefore a b → RanksBefore b c → RanksBefore a c

-- of two ranks that differ one goes before the other
abbrev pub TotalOnRanks : Type 0
TotalOnRanks = (a b : Rank) → a ≢ b → RanksBefore a b ⊎ RanksBefore b a
