-- What comes of a whole history is determined (RFC 3261 section 16.7).
use Rattle.std.specs.Prelude.{◌≡◌, List}
use Rattle.fork_model.specs.Table.{Kind, Rules}
use Rattle.fork_model.specs.Event.{Event}
use Rattle.fork_model.specs.History.{Target}
use Rattle.fork_model.specs.Core.{Outcome, opening_core, AreOutcomes}

-- the events that are offered to a context, one after the other, have one outcome each
abbrev pub OneHistory : Type 0
OneHistory =
    (kind : Kind) (rules : Rules) (targets : List Target) (events : List Event) (a b : List Outcome)
    → AreOutcomes (opening_core kind rules targets) events a
    → AreOutcomes (opening_core kind rules targets) events b
    → a ≡ b
