-- Lines with credentials, taken off one by one (RFC 3261 section 22.3).
-- Here: what no public contract reaches.
use Rattle.std.specs.Prelude.{◌≡◌, ◌<◌, ◌-◌, ℕ, List, ◌++◌, drop, length, take}
use Rattle.sip_text.specs.Text.{HeaderText, MessageText}
use Rattle.sip_digest.specs.OwnCredentials.{IsWithoutCredentials}

-- the lines before a place stay, and what is left of those from it on makes the whole
pub record IsTakenSoFar (realm : List ℕ) (initial m : MessageText) (place : ℕ) : Type 0 where
  pub start : m.start ≡ initial.start
  pub body : m.body ≡ initial.body
  pub rest : (left : List HeaderText) → IsWithoutCredentials realm (drop place m.headers) left
      → IsWithoutCredentials realm initial.headers (take place m.headers ++ left)

-- with one line fewer behind the place
abbrev pub IsTakenFurther : (realm : List ℕ) → (initial m : MessageText) → ℕ → MessageText × ℕ → Type 0
IsTakenFurther realm initial m place (left, next) =
    IsTakenSoFar realm initial left next × (length left.headers - next < length m.headers - place)
