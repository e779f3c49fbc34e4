-- The text that lists users: a line for each, ended by LF; empty lines and those that begin with `#` say nothing.
--
--     # of the office
--     bob d0fad14ccd9e71fd0e06a0bf1a8f5f8d -
use Rattle.std.specs.Prelude.{◌≡◌, ◌≢◌, ℕ, suc, Bool, true, false, ◌&&◌, ◌||◌, not, List, [], ◌∷◌, ◌++◌, length, ◌==◌}
use Rattle.std.specs.List.{AllByRecursion, flat_map, list_all, list_any}
use Rattle.fork_rank.specs.LineByLine.{lines_text}
use Rattle.fork_rank.specs.RuleLines.{ended}
use Rattle.sip_digest.specs.declared.algorithm.Algorithms.{Algorithms}
use Rattle.sip_digest.specs.User.{IsUser, User, begins_with_hash, is_named, user_text}

-- a user, or a text that says nothing
pub data Line : Type 0 where
  UserLine : User → Line
  Comment : (text : List ℕ) → Line

abbrev pub line_text : Line → List ℕ
line_text (UserLine user) = user_text user
line_text (Comment text) = text

abbrev pub is_empty : List ℕ → Bool
is_empty [] = true
is_empty (b ∷ bs) = false

abbrev pub is_no_lf : ℕ → Bool
is_no_lf b = not (b == 10)

abbrev pub is_comment : List ℕ → Bool
is_comment text = (is_empty text || begins_with_hash text) && list_all is_no_lf text

abbrev pub IsLine : Algorithms → Line → Type 0
IsLine algorithms (UserLine user) = IsUser algorithms user
IsLine algorithms (Comment text) = is_comment text ≡ true

-- the users of a line, of lines
abbrev pub users_of_line : Line → List User
users_of_line (UserLine user) = user ∷ []
users_of_line (Comment text) = []

abbrev pub users_of : List Line → List User
users_of lines = flat_map users_of_line lines

abbrev pub text_of : List Line → List ℕ
text_of lines = lines_text line_text lines

-- each name stands once, and none of them before
abbrev pub AreApartFrom : List User → List User → Type 0
AreApartFrom earlier [] = Unit {0}
AreApartFrom earlier (user ∷ users) = (list_any (is_named user.name) earlier ≡ false) × AreApartFrom (earlier ++ user ∷ []) users

abbrev pub AreApart : List User → Type 0
AreApart users = AreApartFrom [] users

-- these lines, of users with names of their own
pub record AreLines (algorithms : Algorithms) (lines : List Line) : Type 0 where
  pub each : AllByRecursion (IsLine algorithms) lines
  pub apart : AreApart (users_of lines)

-- the text lists these users
pub record ListsUsers (algorithms : Algorithms) (text : List ℕ) (users : List User) : Type 0 where
  pub lines : List Line
  pub are : AreLines algorithms lines
  pub spelled : text ≡ text_of lines
  pub users_are : users_of lines ≡ users

-- line n is the first that is malformed: those before it are lines, the one that stands there is none that may follow them, and
-- something stands there
pub record IsMalformedAt (algorithms : Algorithms) (text : List ℕ) (n : ℕ) : Type 0 where
  pub lines : List Line
  pub rest : List ℕ
  pub number : n ≡ suc (length lines)
  pub are : AreLines algorithms lines
  pub spelled : text ≡ text_of lines ++ rest
  pub wrong : (line : Line) (more : List ℕ) → rest ≡ ended (line_text line) ++ more → AreLines algorithms (lines ++ line ∷ []) → ⊥
  pub more : rest ≢ []
