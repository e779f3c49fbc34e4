-- Bytes that were written at a place in a text that has room for them.
use Rattle.std.specs.Prelude.{◌≡◌, ℕ, ◌+◌, List, ◌++◌, length, take}

-- they stand behind what stood before that place, up to the end, and what is written over keeps its length
pub record Placed (old new : List ℕ) (at : ℕ) (text : List ℕ) (end : ℕ) : Type 0 where
  pub bytes : take end new ≡ take at old ++ text
  pub moved : end ≡ at + length text
  pub len : length new ≡ length old
