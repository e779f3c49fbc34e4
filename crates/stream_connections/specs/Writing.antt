-- What is to be written to a connection and is written, one after another.
use Rattle.std.specs.Prelude.{◌≡◌, ℕ, ◌≤◌, List, [], ◌∷◌, ◌++◌, length, take}
use Rattle.stream_connections.specs.Queued.{Queued}
use Rattle.stream_connections.specs.Queue.{Queue, enqueued, first_bytes, first_rest, texts, wrote}

pub data WriteStep : Type 0 where
  -- a message waits from a moment on
  Waits : ℕ → Queued → WriteStep
  -- these bytes are written at a moment
  Goes : ℕ → List ℕ → WriteStep

-- what a step makes of what waits
abbrev pub IsWriteStep : Queue → WriteStep → Queue → Type 0
IsWriteStep old (Waits now m) new = new ≡ enqueued now m old
IsWriteStep old (Goes now bytes) new =
    (n : ℕ) × (n ≤ length (first_rest old)) × (bytes ≡ take n (first_rest old)) × (new ≡ wrote now n old)

abbrev pub IsWriteRun : Queue → List WriteStep → Queue → Type 0
IsWriteRun old [] new = new ≡ old
IsWriteRun old (step ∷ steps) new = (between : Queue) × IsWriteStep old step between × IsWriteRun between steps new

-- all messages that were to be written
abbrev pub waited : List WriteStep → List Queued
waited [] = []
waited (Waits now m ∷ steps) = m ∷ waited steps
waited (Goes now bytes ∷ steps) = waited steps

-- all bytes that were written
abbrev pub gone : List WriteStep → List ℕ
gone [] = []
gone (Waits now m ∷ steps) = gone steps
gone (Goes now bytes ∷ steps) = bytes ++ gone steps

-- of these messages the first were written, and of the others, which are left whole, no more than a front of the first one
pub record AreWritten (messages : List Queued) (bytes : List ℕ) (q : Queue) : Type 0 where
  pub done : List Queued
  pub all : messages ≡ done ++ q.messages
  pub front : bytes ≡ texts done ++ take q.written (first_bytes q.messages)

-- ---- law

-- What was written is a front of all messages, in the order in which they were to be written, and each message of which a byte was not
-- written is left, whole.
abbrev pub WhatIsWrittenIsAFront : Type 0
WhatIsWrittenIsAFront = (old new : Queue) (steps : List WriteStep) → old.written ≤ length (first_bytes old.messages) → IsWriteRun old steps new
    → AreWritten (old.messages ++ waited steps) (take old.written (first_bytes old.messages) ++ gone steps) new
