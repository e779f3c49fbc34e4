-- Places for calls: a proxy that keeps as many calls as it may answers a new request 503 (RFC 3261 section 21.5.4).
use Rattle.std.specs.Prelude.{ℕ, ◌+◌, ◌-◌, ◌/◌, ◌^◌, max, min}

pub record PlaceCount : Type 0 where
  -- for how many calls of requests that begin something new there is room
  pub most : ℕ
  -- how many places are taken
  pub taken : ℕ

abbrev pub with_taken : PlaceCount → ℕ → PlaceCount
with_taken places taken = record { most = places.most; taken = taken }

-- for how many calls there is room where the next one is of a request within a dialog: a tenth more, at least one, within 64 bits
abbrev pub most_within_dialog : ℕ → ℕ
most_within_dialog most = min (most + max (most / 10) 1) (2 ^ 64 - 1)
