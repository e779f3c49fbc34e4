-- The arrivals that are noted are those of the lines so far.
use Rattle.fork_listing.proofs.Common.{◌≡◌, ℕ, ◌+◌, Bool, true, false, Option, List, arith, ListedTarget, ended_at, BTreeSet, nat_cmp, Holds}
use Rattle.std.specs.BTreeMap.{is_at}
use Rattle.fork_listing.specs.inner.Near.{Notes}
use Rattle.fork_listing.proofs.Placing.{IsFresh}

other : (a b : ℕ) → (a ≡ b → ⊥) → is_at (nat_cmp a) b ≡ false
other a b differ = grind arith

pub holds_more : (old new : BTreeSet ℕ) (targets : List ListedTarget) (n : ℕ) (arrival : Option ℕ) (fresh : Bool) → ended_at targets n ≡ arrival → Notes old new arrival fresh → Holds old targets n → Holds new targets (n + 1)
holds_more old new targets n arrival fresh here notes holds = grind arith

-- an arrival is new where no line before has it
pub fresh_if : (old new : BTreeSet ℕ) (targets : List ListedTarget) (n : ℕ) (arrival : Option ℕ) (fresh : Bool) → ended_at targets n ≡ arrival → Notes old new arrival fresh → Holds old targets n
    → (fresh ≡ true → IsFresh targets n) × (IsFresh targets n → fresh ≡ true)
fresh_if old new targets n arrival fresh here notes holds = grind arith
