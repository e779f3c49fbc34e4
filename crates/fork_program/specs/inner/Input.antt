-- What is read of standard input, where the bytes that a reader has left are known.
use Rattle.std.specs.Prelude.{◌≡◌, ◌≤◌, ℕ, Bool, true, List, ◌++◌, length, Option}
use Rattle.std.specs.Io.KnownBytes.{Consumes, IsAtEnd}

-- one read took bytes from the front of what was left and put them behind the text; was the end met
pub record ReadsMore (old new : Option (List ℕ)) (room : ℕ) (before after : List ℕ) (ended : Bool) : Type 0 where
  pub bytes : List ℕ
  pub few : length bytes ≤ room
  pub consumed : Consumes old new bytes
  pub appended : after ≡ before ++ bytes
  pub at_end : ended ≡ true → IsAtEnd new
