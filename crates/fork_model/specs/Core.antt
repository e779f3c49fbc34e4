-- A response context: the table of a fork, and how many events it has taken. What it may store is bounded, so
-- past a limit it takes only events that change its table.
use Rattle.std.specs.Prelude.{◌≡◌, ℕ, suc, ◌&&◌, nat_le, Bool, true, false, List, [], ◌∷◌, if◌then◌else◌}
use Rattle.fork_model.specs.Table.{Table, Kind, Rules}
use Rattle.fork_model.specs.Event.{Event}
use Rattle.fork_model.specs.Step.{next, is_stray}
use Rattle.fork_model.specs.Reply.{Reply, IsReply}
use Rattle.fork_model.specs.History.{Target, opening}

pub record Core : Type 0 where
  pub table : Table
  pub taken : ℕ

-- from so many events on, one that changes nothing is refused
abbrev pub most_strays : ℕ
most_strays = 4096

abbrev pub is_full : Core → Event → Bool
is_full core event = nat_le most_strays core.taken && is_stray core.table event core.taken

abbrev pub opening_core : Kind → Rules → List Target → Core
opening_core kind rules targets = record { table = opening kind rules targets; taken = 0 }

-- the context after an event that it takes
abbrev pub core_next : Core → Event → Core
core_next core event = record { table = next core.table event core.taken; taken = suc core.taken }

-- what comes of an event that is offered: it is refused, or taken and answered
pub data Outcome : Type 0 where
  Full : Outcome
  Replied : Reply → Outcome

abbrev pub IsOutcome : Core → Event → Outcome → Type 0
IsOutcome core event Full = is_full core event ≡ true
IsOutcome core event (Replied reply) = (is_full core event ≡ false) × IsReply core.table event core.taken reply

abbrev pub core_offered : Core → Event → Core
core_offered core event = if is_full core event then core else core_next core event

-- the context after all these events were offered
abbrev pub core_after : Core → List Event → Core
core_after core [] = core
core_after core (event ∷ events) = core_after (core_offered core event) events

-- what comes of each
abbrev pub AreOutcomes : Core → List Event → List Outcome → Type 0
AreOutcomes core [] [] = Unit {0}
AreOutcomes core [] (outcome ∷ outcomes) = ⊥
AreOutcomes core (event ∷ events) [] = ⊥
AreOutcomes core (event ∷ events) (outcome ∷ outcomes) =
    IsOutcome core event outcome × AreOutcomes (core_offered core event) events outcomes
