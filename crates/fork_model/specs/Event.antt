-- What may happen to a fork (RFC 3261 sections 9, 16.7 to 16.10). The number n names a row.
use Rattle.std.specs.Prelude.{ℕ, List, Option, Some, None}
use Rattle.fork_model.specs.Table.{Offer, Challenge}

-- a final response, with what the fork needs of its contacts and its challenges
pub record FinalAnswer : Type 0 where
  pub status : ℕ
  pub offers : List Offer
  pub challenges : List Challenge

-- a provisional response; a final one; the transaction's timeout; a transport error; timer C; the end of
-- the wait for an answer to a cancelled branch; the caller's CANCEL
pub data Event : Type 0 where
  Ring : (n status : ℕ) → Event
  Answer : (n : ℕ) → FinalAnswer → Event
  Timeout : (n : ℕ) → Event
  Fault : (n : ℕ) → Event
  TimerC : (n : ℕ) → Event
  GiveUp : (n : ℕ) → Event
  Cancel : Event

-- the row that an event names
abbrev pub row_named : Event → Option ℕ
row_named (Ring n status) = Some n
row_named (Answer n answer) = Some n
row_named (Timeout n) = Some n
row_named (Fault n) = Some n
row_named (TimerC n) = Some n
row_named (GiveUp n) = Some n
row_named Cancel = None
