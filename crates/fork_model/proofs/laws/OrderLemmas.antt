-- The order of stored answers is a strict total order on arrivals, for any rules.
use Rattle.fork_model.proofs.Common.{◌≡◌, ◌≢◌, ◌⊎◌, arith, subst, Rules, Rank, Score, RanksBefore, common_steps}
use Rattle.fork_model.specs.Rank.{rank_of, Before}

pub ranks_irrefl : (a : Rank) → RanksBefore a a → ⊥
ranks_irrefl a h = grind arith

pub ranks_trans : (a b c : Rank) → RanksBefore a b → RanksBefore b c → RanksBefore a c
ranks_trans a b c h k = grind arith

ranks_total : (a b : Rank) → a.arrival ≢ b.arrival → RanksBefore a b ⊎ RanksBefore b a
ranks_total a b differ = grind arith

ranks_decide : (a b : Rank) → RanksBefore a b ⊎ (RanksBefore a b → ⊥)
ranks_decide a b = grind arith

same_rank : (a b : Rank) → a.class ≡ b.class → a.part ≡ b.part → a.arrival ≡ b.arrival → a ≡ b
same_rank a b class part arrival = λ i. record { class = class i; part = part i; arrival = arrival i }

-- of three numbers that are not all the same the first that differs decides
pub ranks_total_apart : (a b : Rank) → a ≢ b → RanksBefore a b ⊎ RanksBefore b a
ranks_total_apart a b differ = grind (arith, common_steps, ranks_decide, same_rank)

ranks_between : (o k s : Rank) → RanksBefore o k → (RanksBefore s k → ⊥) → RanksBefore o s
ranks_between o k s h not = grind arith

pub Before-irrefl : (rules : Rules) (a : Score) → Before rules a a → ⊥
unfolding Before
Before-irrefl rules a h = ranks_irrefl (rank_of rules a) h

pub Before-trans : (rules : Rules) (a b c : Score) → Before rules a b → Before rules b c → Before rules a c
unfolding Before
Before-trans rules a b c h k = ranks_trans (rank_of rules a) (rank_of rules b) (rank_of rules c) h k

pub Before-total : (rules : Rules) (a b : Score) → a.arrival ≢ b.arrival → Before rules a b ⊎ Before rules b a
unfolding Before rank_of
Before-total rules a b differ = ranks_total (rank_of rules a) (rank_of rules b) differ

pub Before-decide : (rules : Rules) (a b : Score) → Before rules a b ⊎ (Before rules a b → ⊥)
unfolding Before
Before-decide rules a b = ranks_decide (rank_of rules a) (rank_of rules b)

-- what goes before the one, where the other does not, goes before the other
pub Before-between : (rules : Rules) (o k s : Score) → Before rules o k → (Before rules s k → ⊥) → Before rules o s
unfolding Before
Before-between rules o k s h not = ranks_between (rank_of rules o) (rank_of rules k) (rank_of rules s) h not

pub Before-same : (rules : Rules) (a b : Score) → a ≡ b → Before rules a b → ⊥
Before-same rules a b e h = let P : Score → Type 0 = λ x. Before rules x b in Before-irrefl rules b (subst P e h)
