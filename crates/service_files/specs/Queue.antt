-- Blocks that wait to be written to the journal.
use Rattle.std.specs.Prelude.{◌≤◌, ◌<◌, ◌+◌, ◌++◌, ℕ, List, [], length}

pub record Waiting : Type 0 where
  -- the blocks in the order in which they came, joined
  pub text : List ℕ
  -- how many there are
  pub blocks : ℕ

abbrev pub nothing : Waiting
nothing = record { text = []; blocks = 0 }

-- there is room for one more of so many bytes
pub record HasRoom (waiting : Waiting) (bytes : ℕ) : Type 0 where
  pub blocks : waiting.blocks < 65536
  pub text : length waiting.text + bytes ≤ 16777216

-- with one more behind the others
abbrev pub with_block : Waiting → List ℕ → Waiting
with_block waiting block = record { text = waiting.text ++ block; blocks = waiting.blocks + 1 }
