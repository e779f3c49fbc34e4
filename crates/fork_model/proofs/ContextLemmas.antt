-- A context stands where the history of the events that it took leads.
use Rattle.fork_model.proofs.Common.{◌≡◌, ◌≢◌, Bool, true, false, List, [], ◌∷◌, refl, sym, subst, cond, Kind, Rules, Table, is_finished, is_succeeded, Event, Target, opening, after, AreReplies, OneFinal, Core, Outcome, Full, Replied, core_next}
use Rattle.fork_model.proofs.Common.{core_after, opening_core, AreOutcomes, arith, rules}
use Rattle.fork_model.specs.ExactlyOne.{replies_of, taken_of, NoFinalBeforeOfContext, NoFinalBesideSuccessOfContext, RowsOfContextStay, NothingFinalFollowsOfContext}
use Rattle.fork_model.proofs.OneFinalLemmas.{one_final, no_final_before, no_final_beside_success, rows_stay, nothing_final_follows}
use Rattle.fork_model.proofs.OpeningLemmas.{opening_is_unfinished}
use Rattle.fork_model.proofs.Common.{common_steps}

pub stands_by_its_history : (core : Core) (events : List Event) → (core_after core events).table ≡ after core.table core.taken (taken_of core events)
stands_by_its_history core [] = refl
stands_by_its_history core (event ∷ events) = grind (arith, stands_by_its_history core events, stands_by_its_history (core_next core event) events)

-- what a context answers are the replies to the events that it took
pub are_replies : (core : Core) (events : List Event) (outcomes : List Outcome) → AreOutcomes core events outcomes
    → AreReplies core.table core.taken (taken_of core events) (replies_of outcomes)
are_replies core [] [] are = tt
are_replies core [] (outcome ∷ outcomes) are = absurd are
are_replies core (event ∷ events) [] are = absurd are
are_replies core (event ∷ events) (Full ∷ outcomes) are =
    let P : Bool → Type 0 = λ full.
    AreReplies core.table core.taken
    (cond full (taken_of (cond full core (core_next core event)) events) (event ∷ taken_of (cond full core (core_next core event)) events))
    (replies_of outcomes) in
    let Q : Bool → Type 0 = λ full. AreOutcomes (cond full core (core_next core event)) events outcomes in
    subst P (sym are.0) (are_replies core events outcomes (subst Q are.0 are.1))
are_replies core (event ∷ events) (Replied reply ∷ outcomes) are =
    let P : Bool → Type 0 = λ full.
    AreReplies core.table core.taken
    (cond full (taken_of (cond full core (core_next core event)) events) (event ∷ taken_of (cond full core (core_next core event)) events))
    (reply ∷ replies_of outcomes) in
    let Q : Bool → Type 0 = λ full. AreOutcomes (cond full core (core_next core event)) events outcomes in
    subst P (sym are.0.0) (are.0.1, are_replies (core_next core event) events outcomes (subst Q are.0.0 are.1))

pub one_final_of_context : (kind : Kind) (rules : Rules) (targets : List Target) (events : List Event) (outcomes : List Outcome) → targets ≢ []
    → AreOutcomes (opening_core kind rules targets) events outcomes
    → is_finished (core_after (opening_core kind rules targets) events).table.rows ≡ true
    → is_succeeded (core_after (opening_core kind rules targets) events).table.rows ≡ false
    → OneFinal (core_after (opening_core kind rules targets) events).table (replies_of outcomes)
one_final_of_context kind rules targets events outcomes some are done succ = grind (arith, common_steps, opening_is_unfinished kind rules targets some, stands_by_its_history, one_final, are_replies)

-- ---- the other laws on replies, of contexts

pub no_final_before_of_context : NoFinalBeforeOfContext
no_final_before_of_context kind rules targets events outcomes are open_yet = grind (arith, no_final_before, are_replies, stands_by_its_history)

pub no_final_beside_success_of_context : NoFinalBesideSuccessOfContext
no_final_beside_success_of_context kind rules targets events outcomes are succ = grind (arith, no_final_beside_success, are_replies, stands_by_its_history)

pub rows_of_context_stay : RowsOfContextStay
rows_of_context_stay core events done = grind (arith, stands_by_its_history, rows_stay)

pub nothing_final_follows_of_context : NothingFinalFollowsOfContext
nothing_final_follows_of_context core events outcomes are done = grind (arith, nothing_final_follows, are_replies)
