-- What a replay prints is determined by its script (RFC 3261 section 16.7).
use Rattle.std.specs.Prelude.{◌≡◌, ℕ, List}
use Rattle.fork_program.specs.Script.{Script}
use Rattle.fork_program.specs.Replay.{IsReplay}

-- two replays of a script are the same text
abbrev pub OneReplay : Type 0
OneReplay = (script : Script) (a b : List ℕ) → IsReplay script a → IsReplay script b → a ≡ b
