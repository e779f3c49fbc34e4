-- A script has one replay.
use Rattle.fork_program.proofs.Common.{◌≡◌, ℕ, true, false, Bool, Table, AreArrivals, one_choice, Ending, IsEnding, common_steps, arith}
use Rattle.fork_model.proofs.laws.Headline.{one_history}
use Rattle.fork_listing.proofs.laws.OneListing.{one_ranking}
use Rattle.fork_program.specs.One.{OneReplay}
use Rattle.fork_program.proofs.Headline.{arrivals}

true_false : (b : Bool) → b ≡ true → b ≡ false → ⊥
true_false b x y = cc

one_ending : (t : Table) (at : ℕ) → AreArrivals t.rows at → (a b : Ending) → IsEnding t a → IsEnding t b → a ≡ b
one_ending t at kept a b x y = grind (arith, common_steps, true_false, one_ranking, one_choice)

pub one_replay : OneReplay
one_replay script a b x y = grind (arith, common_steps, arrivals script, one_history, one_ending)
