-- What comes by a connection and is handed out, one after another (RFC 3261 section 18.3).
use Rattle.std.specs.Prelude.{◌≡◌, ℕ, ◌≤◌, List, [], ◌∷◌, ◌++◌, length, take, Some, None}
use Rattle.sip_framing.specs.Frame.{frame_len, frame_of}
use Rattle.sip_framing.specs.Stream.{Cuts}
use Rattle.stream_connections.specs.Received.{Received, most_message, passed, received}

pub data ReadStep : Type 0 where
  -- these bytes come at a moment
  Comes : ℕ → List ℕ → ReadStep
  -- what stands at the front is handed out at a moment
  Leaves : ℕ → List ℕ → ReadStep

-- what a step makes of a connection
abbrev pub IsReadStep : Received → ReadStep → Received → Type 0
IsReadStep old (Comes now bytes) new = new ≡ received now bytes old
IsReadStep old (Leaves now piece) new =
    (n : ℕ) × (frame_len (frame_of most_message old.waiting) ≡ Some n) × (n ≤ length old.waiting) × (piece ≡ take n old.waiting) × (new ≡ passed now n old)

abbrev pub IsReadRun : Received → List ReadStep → Received → Type 0
IsReadRun old [] new = new ≡ old
IsReadRun old (step ∷ steps) new = (between : Received) × IsReadStep old step between × IsReadRun between steps new

-- all bytes that came
abbrev pub came : List ReadStep → List ℕ
came [] = []
came (Comes now bytes ∷ steps) = bytes ++ came steps
came (Leaves now piece ∷ steps) = came steps

-- all pieces that were handed out
abbrev pub pieces : List ReadStep → List (List ℕ)
pieces [] = []
pieces (Comes now bytes ∷ steps) = pieces steps
pieces (Leaves now piece ∷ steps) = piece ∷ pieces steps

-- ---- law

-- Where nothing whole is left, what was handed out is what the bytes that waited at first and all that came since are cut into, as one.
abbrev pub PiecesAreOfTheStream : Type 0
PiecesAreOfTheStream = (old new : Received) (steps : List ReadStep) → IsReadRun old steps new → frame_len (frame_of most_message new.waiting) ≡ None
    → Cuts most_message (old.waiting ++ came steps) (pieces steps) new.waiting
