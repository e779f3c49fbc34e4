-- What a peer has sent by a connection (RFC 3261 section 18.3).
use Rattle.std.specs.Prelude.{ℕ, List, ◌++◌, length, drop, ◌==◌, if◌then◌else◌}

pub record Received : Type 0 where
  -- what was not handed out yet
  pub waiting : List ℕ
  -- the moment from which on it waits
  pub since : ℕ
  -- the moment at which something came last
  pub heard : ℕ

-- no message has more bytes
abbrev pub most_message : ℕ
most_message = 65535

-- with bytes that came at a moment
abbrev pub received : ℕ → List ℕ → Received → Received
received now bytes s = record { waiting = s.waiting ++ bytes; since = if length s.waiting == 0 then now else s.since; heard = now }

-- so many bytes were handed out at a moment
abbrev pub passed : ℕ → ℕ → Received → Received
passed now count s = record { waiting = drop count s.waiting; since = now; heard = s.heard }
