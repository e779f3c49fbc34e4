-- What waits to be written to a connection.
use Rattle.std.specs.Prelude.{◌≡◌, ℕ, ◌+◌, ◌-◌, ◌≤◌, Bool, true, List, [], ◌∷◌, ◌++◌, length, drop, nat_lt, ◌==◌, if◌then◌else◌}
use Rattle.std.specs.List.{flat_map}
use Rattle.stream_connections.specs.Queued.{Queued}
use Rattle.stream_connections.specs.declared.lifetime.SendingState.{SendingState}
use Rattle.stream_connections.specs.declared.lifetime.SendingState.TheVariants.{Connecting, Waiting, Resting}

pub record Queue : Type 0 where
  -- the messages of which a byte was not written, in order
  pub messages : List Queued
  -- how many bytes of the first of them were written
  pub written : ℕ
  -- the moment at which something was written last, or began to wait, or the connection was opened
  pub since : ℕ
  pub is_open : Bool

-- no more bytes wait
abbrev pub most_waiting : ℕ
most_waiting = 262144

abbrev pub bytes_of : Queued → List ℕ
bytes_of m = m.bytes

-- the bytes of messages, one behind the other
abbrev pub texts : List Queued → List ℕ
texts messages = flat_map bytes_of messages

abbrev pub first_bytes : List Queued → List ℕ
first_bytes [] = []
first_bytes (m ∷ ms) = m.bytes

-- what is left to be written of the first message
abbrev pub first_rest : Queue → List ℕ
first_rest q = drop q.written (first_bytes q.messages)

-- how many bytes wait
abbrev pub left : Queue → ℕ
left q = length (texts q.messages) - q.written

-- a message waits behind all that wait
abbrev pub enqueued : ℕ → Queued → Queue → Queue
enqueued now m q = record q { messages = q.messages ++ m ∷ []; since = if length q.messages == 0 then now else q.since }

-- so many bytes of the first message were written: it is gone with its last
abbrev pub wrote : ℕ → ℕ → Queue → Queue
wrote now n q =
    if nat_lt (q.written + n) (length (first_bytes q.messages)) then record q { written = q.written + n; since = now }
    else record q { messages = drop 1 q.messages; written = 0; since = now }

abbrev pub opened : ℕ → Queue → Queue
opened now q = record q { since = now; is_open = true }

abbrev pub state_of : Queue → SendingState
state_of q = if q.is_open then (if length q.messages == 0 then Resting else Waiting) else Connecting

-- of the first message something is left, and so many bytes wait
pub record IsSound (messages : List Queued) (written remaining : ℕ) : Type 0 where
  pub within : written ≤ length (first_bytes messages) - 1
  pub remaining_is : remaining ≡ length (texts messages) - written
  pub few : remaining ≤ most_waiting
