-- What holds of every history: exactly one final answer goes up, and it is the first of all that are stored (RFC
-- 3261 section 16.7 steps 5, 6 and 10).
use Rattle.std.specs.Prelude.{◌≡◌, ◌≢◌, ℕ, true, false, List, [], ◌∷◌, if◌then◌else◌}
use Rattle.fork_model.specs.Table.{Kind, Rules, Table, is_finished, is_succeeded}
use Rattle.fork_model.specs.Event.{Event}
use Rattle.fork_model.specs.Step.{next}
use Rattle.fork_model.specs.Choice.{Choice, IsChoice}
use Rattle.fork_model.specs.Reply.{Final, Reply, IsReply, finishes}
use Rattle.fork_model.specs.History.{Target, opening, after, table, AreReplies, finals, OneFinal}
use Rattle.fork_model.specs.Core.{Core, Outcome, Full, Replied, is_full, core_offered, opening_core, core_after, AreOutcomes}

-- with a target there is something to wait for
abbrev pub OpeningIsUnfinished : Type 0
OpeningIsUnfinished =
    (kind : Kind) (rules : Rules) (targets : List Target) → targets ≢ [] → is_finished (opening kind rules targets).rows ≡ false

-- once every branch has ended and no 2xx came, exactly one final answer has gone up, and it is the choice of the
-- table as it stands
abbrev pub ExactlyOneFinal : Type 0
ExactlyOneFinal =
    (kind : Kind) (rules : Rules) (targets : List Target) (events : List Event) (replies : List Reply)
    → targets ≢ []
    → AreReplies (opening kind rules targets) 0 events replies
    → is_finished (table kind rules targets events).rows ≡ true
    → is_succeeded (table kind rules targets events).rows ≡ false
    → OneFinal (table kind rules targets events) replies

-- while a branch has not ended, nothing final has gone up
abbrev pub NoFinalBefore : Type 0
NoFinalBefore =
    (kind : Kind) (rules : Rules) (targets : List Target) (events : List Event) (replies : List Reply)
    → AreReplies (opening kind rules targets) 0 events replies
    → is_finished (table kind rules targets events).rows ≡ false
    → finals replies ≡ []

-- where a branch was answered with a 2xx, nothing final has gone up
abbrev pub NoFinalBesideSuccess : Type 0
NoFinalBesideSuccess =
    (kind : Kind) (rules : Rules) (targets : List Target) (events : List Event) (replies : List Reply)
    → AreReplies (opening kind rules targets) 0 events replies
    → is_succeeded (table kind rules targets events).rows ≡ true
    → finals replies ≡ []

-- the event that ends the last branch is answered with the choice of the table, where no 2xx came
abbrev pub FinalAtTheEnd : Type 0
FinalAtTheEnd =
    (t : Table) (event : Event) (at : ℕ) (reply : Reply)
    → IsReply t event at reply
    → finishes t (next t event at) ≡ true
    → (choice : Choice) × (reply.up ≡ Final choice) × IsChoice (next t event at).rules (next t event at).rows choice

-- and no other event is
abbrev pub FinalAtTheEndAlone : Type 0
FinalAtTheEndAlone =
    (t : Table) (event : Event) (at : ℕ) (reply : Reply) (choice : Choice)
    → IsReply t event at reply
    → reply.up ≡ Final choice
    → (finishes t (next t event at) ≡ true) × IsChoice (next t event at).rules (next t event at).rows choice

-- whatever follows at a table of which every branch has ended, its rows stay, and nothing final goes up again
abbrev pub RowsStay : Type 0
RowsStay =
    (t : Table) (at : ℕ) (events : List Event) → is_finished t.rows ≡ true → (after t at events).rows ≡ t.rows

abbrev pub NothingFinalFollows : Type 0
NothingFinalFollows =
    (t : Table) (at : ℕ) (events : List Event) (replies : List Reply)
    → AreReplies t at events replies
    → is_finished t.rows ≡ true
    → finals replies ≡ []

-- the replies to the events that a context took
abbrev pub replies_of : List Outcome → List Reply
replies_of [] = []
replies_of (Full ∷ outcomes) = replies_of outcomes
replies_of (Replied reply ∷ outcomes) = reply ∷ replies_of outcomes

-- the events that a context took
abbrev pub taken_of : Core → List Event → List Event
taken_of core [] = []
taken_of core (event ∷ events) =
    if is_full core event then taken_of (core_offered core event) events
    else event ∷ taken_of (core_offered core event) events

-- a context stands where the history of the events that it took leads
abbrev pub StandsByItsHistory : Type 0
StandsByItsHistory =
    (core : Core) (events : List Event) → (core_after core events).table ≡ after core.table core.taken (taken_of core events)

-- the same of a context that refuses strays past its limit: a refused event is no part of its history
abbrev pub ExactlyOneFinalOfContext : Type 0
ExactlyOneFinalOfContext =
    (kind : Kind) (rules : Rules) (targets : List Target) (events : List Event) (outcomes : List Outcome)
    → targets ≢ []
    → AreOutcomes (opening_core kind rules targets) events outcomes
    → is_finished (core_after (opening_core kind rules targets) events).table.rows ≡ true
    → is_succeeded (core_after (opening_core kind rules targets) events).table.rows ≡ false
    → OneFinal (core_after (opening_core kind rules targets) events).table (replies_of outcomes)

-- what a context answers are the replies to the events that it took, so what holds of replies holds of contexts
abbrev pub OutcomesAreReplies : Type 0
OutcomesAreReplies =
    (core : Core) (events : List Event) (outcomes : List Outcome) → AreOutcomes core events outcomes
    → AreReplies core.table core.taken (taken_of core events) (replies_of outcomes)

abbrev pub NoFinalBeforeOfContext : Type 0
NoFinalBeforeOfContext =
    (kind : Kind) (rules : Rules) (targets : List Target) (events : List Event) (outcomes : List Outcome)
    → AreOutcomes (opening_core kind rules targets) events outcomes
    → is_finished (core_after (opening_core kind rules targets) events).table.rows ≡ false
    → finals (replies_of outcomes) ≡ []

abbrev pub NoFinalBesideSuccessOfContext : Type 0
NoFinalBesideSuccessOfContext =
    (kind : Kind) (rules : Rules) (targets : List Target) (events : List Event) (outcomes : List Outcome)
    → AreOutcomes (opening_core kind rules targets) events outcomes
    → is_succeeded (core_after (opening_core kind rules targets) events).table.rows ≡ true
    → finals (replies_of outcomes) ≡ []

abbrev pub RowsOfContextStay : Type 0
RowsOfContextStay =
    (core : Core) (events : List Event) → is_finished core.table.rows ≡ true
    → (core_after core events).table.rows ≡ core.table.rows

abbrev pub NothingFinalFollowsOfContext : Type 0
NothingFinalFollowsOfContext =
    (core : Core) (events : List Event) (outcomes : List Outcome) → AreOutcomes core events outcomes
    → is_finished core.table.rows ≡ true
    → finals (replies_of outcomes) ≡ []
