-- An event that is offered to a context has one outcome.
use Rattle.fork_model.proofs.Common.{◌≡◌, suc, Bool, true, false, List, [], ◌∷◌, refl, ap, cond, Table, Event, next, Core, Outcome, Full, Replied, is_full, core_next, core_offered, core_after, opening_core, AreOutcomes, AreArrivals, common_steps}
use Rattle.fork_model.proofs.Common.{arith, rules}
use Rattle.fork_model.specs.Core.{IsOutcome}
use Rattle.fork_model.specs.OneReply.{OneOutcome}
use Rattle.fork_model.specs.OneHistory.{OneHistory}
use Rattle.fork_model.proofs.laws.Arrivals.{next_arrivals, history_of_arrivals}
use Rattle.fork_model.proofs.laws.OneReplyLemmas.{one_choice, one_reply}

core_arrivals : (core : Core) (events : List Event) → AreArrivals core.table.rows core.taken
    → AreArrivals (core_after core events).table.rows (core_after core events).taken
core_arrivals core [] kept = kept
core_arrivals core (event ∷ events) kept =
    go (is_full core event) (core_arrivals core events kept)
    (core_arrivals (core_next core event) events (next_arrivals core.table event core.taken kept))
  where
    go : (full : Bool) → AreArrivals (core_after core events).table.rows (core_after core events).taken
        → AreArrivals (core_after (core_next core event) events).table.rows (core_after (core_next core event) events).taken
        → AreArrivals (core_after (cond full core (core_next core event)) events).table.rows (core_after (cond full core (core_next core event)) events).taken
    go true stayed moved = stayed
    go false stayed moved = moved

true_false : (b : Bool) → b ≡ true → b ≡ false → ⊥
true_false b x y = cc

outcome_of : (core : Core) (event : Event) (a b : Outcome) → AreArrivals core.table.rows core.taken
    → IsOutcome core event a → IsOutcome core event b → a ≡ b
outcome_of core event Full Full kept x y = refl
outcome_of core event Full (Replied b) kept x y = absurd (true_false (is_full core event) x y.0)
outcome_of core event (Replied a) Full kept x y = absurd (true_false (is_full core event) y x.0)
outcome_of core event (Replied a) (Replied b) kept x y =
    let new : Table = next core.table event core.taken in
    ap Replied
    (one_reply core.table event core.taken
    (one_choice new.rules new.rows (suc core.taken) (next_arrivals core.table event core.taken kept)) a b x.1 y.1)

pub one_outcome : OneOutcome
one_outcome kind rules targets events event a b x y =
    let core : Core = opening_core kind rules targets in
    outcome_of (core_after core events) event a b (core_arrivals core events (history_of_arrivals kind rules targets [])) x y

-- ---- a whole history

arrivals_offered : (core : Core) (event : Event) → AreArrivals core.table.rows core.taken
    → AreArrivals (core_offered core event).table.rows (core_offered core event).taken
arrivals_offered core event kept = core_arrivals core (event ∷ []) kept

outcomes_of : (core : Core) (events : List Event) (a b : List Outcome) → AreArrivals core.table.rows core.taken
    → AreOutcomes core events a → AreOutcomes core events b → a ≡ b
outcomes_of core [] [] [] kept x y = refl
outcomes_of core [] [] (o ∷ b) kept x y = absurd y
outcomes_of core [] (o ∷ a) b kept x y = absurd x
outcomes_of core (event ∷ events) [] b kept x y = absurd x
outcomes_of core (event ∷ events) (o ∷ a) [] kept x y = absurd y
outcomes_of core (event ∷ events) (o ∷ a) (p ∷ b) kept x y = grind (arith, common_steps, outcome_of, arrivals_offered, outcomes_of (core_offered core event) events a b (arrivals_offered core event kept) x.1 y.1)

pub one_history : OneHistory
one_history kind rules targets events a b x y = grind (arith, common_steps, outcomes_of (opening_core kind rules targets) events a b (history_of_arrivals kind rules targets []) x y, history_of_arrivals)
