-- What is answered is determined: no two stored answers of a history have one arrival, so that one of them is the
-- first (RFC 3261 section 16.7 step 6).
use Rattle.std.specs.Prelude.{◌≡◌, ℕ, ◌<◌, List, length}
use Rattle.fork_model.specs.Table.{Kind, Rules, Row, Table}
use Rattle.fork_model.specs.Rank.{Score}
use Rattle.fork_model.specs.Event.{Event}
use Rattle.fork_model.specs.Choice.{Choice, HasScore, IsChoice}
use Rattle.fork_model.specs.Reply.{Reply, IsReply}
use Rattle.fork_model.specs.History.{Target, table}
use Rattle.fork_model.specs.Core.{Outcome, opening_core, core_after, IsOutcome}

-- what is stored arrived before this position, and each answer by an event of its own
pub record AreArrivals (rows : List Row) (at : ℕ) : Type 0 where
  pub past : (m : ℕ) (score : Score) → HasScore rows m score → score.arrival < at
  pub apart : (m n : ℕ) (a b : Score) → HasScore rows m a → HasScore rows n b → a.arrival ≡ b.arrival → m ≡ n

abbrev pub HistoryOfArrivals : Type 0
HistoryOfArrivals =
    (kind : Kind) (rules : Rules) (targets : List Target) (events : List Event) → AreArrivals (table kind rules targets events).rows (length events)

abbrev pub SomeChoice : Type 0
SomeChoice = (rules : Rules) (rows : List Row) → (choice : Choice) × IsChoice rules rows choice

abbrev pub OneChoice : Type 0
OneChoice =
    (kind : Kind) (rules : Rules) (targets : List Target) (events : List Event) (a b : Choice)
    → IsChoice rules (table kind rules targets events).rows a
    → IsChoice rules (table kind rules targets events).rows b
    → a ≡ b

abbrev pub SomeReply : Type 0
SomeReply = (t : Table) (event : Event) (at : ℕ) → (reply : Reply) × IsReply t event at reply

abbrev pub OneReply : Type 0
OneReply =
    (kind : Kind) (rules : Rules) (targets : List Target) (events : List Event) (event : Event) (a b : Reply)
    → IsReply (table kind rules targets events) event (length events) a
    → IsReply (table kind rules targets events) event (length events) b
    → a ≡ b

-- the same of a context: an event that is offered to it is refused or has one reply
abbrev pub OneOutcome : Type 0
OneOutcome =
    (kind : Kind) (rules : Rules) (targets : List Target) (events : List Event) (event : Event) (a b : Outcome)
    → IsOutcome (core_after (opening_core kind rules targets) events) event a
    → IsOutcome (core_after (opening_core kind rules targets) events) event b
    → a ≡ b
