-- The answers that are owed to the caller, as they lie in memory.
use Rattle.std.specs.Prelude.{List, [], ◌∷◌, ◌≤◌, ℕ, Option, Some, None}
use Rattle.context_values.specs.ReplyView.{choice_of}
use Rattle.call_model.specs.Server as server
use Rattle.call_caller.specs.declared.queue.PendingResponse.{PendingResponse}
use Rattle.call_caller.specs.declared.queue.PendingResponse.TheVariants as answer
use Rattle.call_caller.specs.declared.queue.OwedAnswer.{OwedAnswer}
use Rattle.call_caller.specs.declared.queue.OwedAnswer.TheVariants as stored

-- an answer as it is read
abbrev pub read_of : {A : Type 0} → PendingResponse A → server.Owed
read_of answer.Trying = server.Trying
read_of (answer.Passed response) = server.Passed response.now
read_of (answer.Final choice) = server.Final (choice_of choice)
read_of answer.Again = server.Again
read_of (answer.CancelOk cancel to) = server.CancelOk cancel.now to

-- an answer as it is stored
abbrev pub owed_of : {A : Type 0} → OwedAnswer A → server.Owed
owed_of stored.Trying = server.Trying
owed_of (stored.Passed response) = server.Passed response
owed_of (stored.Final choice) = server.Final (choice_of choice)
owed_of stored.Again = server.Again
owed_of (stored.CancelOk cancel to) = server.CancelOk cancel to

-- the same where there may be none
abbrev pub owed_in : {A : Type 0} → Option (OwedAnswer A) → List server.Owed
owed_in None = []
owed_in (Some new) = owed_of new ∷ []

-- the answers, and how many more fit with no allocation
pub record Queue : Type 0 where
  pub items : List server.Owed
  pub left : ℕ

-- so many answers more fit with no allocation
abbrev pub HasRoomFor : Queue → ℕ → Type 0
HasRoomFor queue answers = answers ≤ queue.left
