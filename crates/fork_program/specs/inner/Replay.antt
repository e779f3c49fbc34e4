-- What a replay prints: the rows that are tried at once, a line for each event that says what the proxy does on
-- it (RFC 3261 sections 16.6, 16.7 and 9.1), and how the fork stands at the end, with its listing where it is done.
-- Here: what no public contract reaches.
use Rattle.std.specs.Prelude.{◌≡◌, ℕ, List, ◌++◌}
use Rattle.fork_model.specs.Event.{Event}
use Rattle.fork_model.specs.Core.{Core, Outcome, core_offered, core_after, IsOutcome, AreOutcomes}
use Rattle.fork_rank.specs.RuleLines.{ended}
use Rattle.fork_program.specs.Replay.{outcome_text, outcomes_text}

-- one event was offered, and the text has grown by its line
pub record AddsOutcome (before after : Core) (event : Event) (old new : List ℕ) : Type 0 where
  pub outcome : Outcome
  pub right : IsOutcome before event outcome
  pub next : after ≡ core_offered before event
  pub spelled : new ≡ old ++ ended (outcome_text (core_offered before event).table.rows outcome)

-- the same for all these events, in their order
pub record AddsOutcomes (before after : Core) (events : List Event) (old new : List ℕ) : Type 0 where
  pub outcomes : List Outcome
  pub right : AreOutcomes before events outcomes
  pub next : after ≡ core_after before events
  pub spelled : new ≡ old ++ outcomes_text before events outcomes
