-- Reading a list of users, a line after the other.
use Rattle.std.specs.Prelude.{ℕ, ◌&&◌, List, [], ◌∷◌, ◌++◌, length, Option, Some, None, Result, Ok, Err, option_and_then, codes, ◌==◌, if◌then◌else◌}
use Rattle.std.specs.List.{list_all, list_any, slice_split}
use Rattle.std.specs.Option.{option_map}
use Rattle.std.specs.Str.{bytes_eq}
use Rattle.sip_lex.specs.Cut.{cut, is}
use Rattle.fork_rank.specs.LineByLine.{lines_from}
use Rattle.fork_rank.specs.Pieces as pieces
use Rattle.sip_digest.specs.declared.algorithm.Algorithms.{Algorithms}
use Rattle.sip_digest.specs.declared.secrets.Secrets.{Secrets}
use Rattle.sip_digest.specs.declared.user_text.NamedSecrets.{NamedSecrets}
use Rattle.sip_digest.specs.User.{User, has_needed, is_lower_hexadecimal, is_name, is_named}
use Rattle.sip_digest.specs.Users.{Line, UserLine, Comment, is_comment}

-- ---- a line

-- `-`, or so many digits
abbrev pub read_digest : ℕ → List ℕ → Option (Option (List ℕ))
read_digest n text =
    if bytes_eq text (codes "-") then Some None
    else (if length text == n && list_all is_lower_hexadecimal text then Some (Some text) else None)

abbrev pub secrets_of : Option (List ℕ) → Option (List ℕ) → Secrets
secrets_of md5 sha256 = record { md5 = md5; sha256 = sha256 }

abbrev pub read_secrets : List ℕ → List ℕ → Option Secrets
read_secrets md5 sha256 = option_and_then (λ m. option_map (secrets_of m) (read_digest 64 sha256)) (read_digest 32 md5)

abbrev pub user_if : Algorithms → List ℕ → Secrets → Option User
user_if algorithms name secrets = if has_needed algorithms secrets then Some (record { name = name; secrets = secrets }) else None

abbrev pub digests_cut : Algorithms → List ℕ → List ℕ × Option (List ℕ) → Option User
digests_cut algorithms name (md5, None) = None
digests_cut algorithms name (md5, Some sha256) = option_and_then (user_if algorithms name) (read_secrets md5 sha256)

abbrev pub user_cut : Algorithms → List ℕ × Option (List ℕ) → Option User
user_cut algorithms (name, None) = None
user_cut algorithms (name, Some digests) = if is_name name then digests_cut algorithms name (cut (is 32) digests) else None

abbrev pub read_user : Algorithms → List ℕ → Option User
read_user algorithms text = user_cut algorithms (cut (is 32) text)

abbrev pub read_line : Algorithms → List ℕ → Option Line
read_line algorithms text = if is_comment text then Some (Comment text) else option_map UserLine (read_user algorithms text)

-- ---- the users so far

abbrev pub with_user : List User → User → Option (List User)
with_user users user = if list_any (is_named user.name) users then None else Some (users ++ user ∷ [])

abbrev pub with_line : List User → Line → Option (List User)
with_line users (UserLine user) = with_user users user
with_line users (Comment text) = Some users

-- with one more line, where it is one and may follow
abbrev pub with_text : Algorithms → List User → List ℕ → Option (List User)
with_text algorithms users text = option_and_then (with_line users) (read_line algorithms text)

-- behind the last LF nothing stands
abbrev pub finished : ℕ → List User → List ℕ → Result (List User) ℕ
finished number users rest = if pieces.is_empty rest then Ok users else Err number

abbrev pub read_from : Algorithms → ℕ → List User → List (List ℕ) → Result (List User) ℕ
read_from algorithms number users lines = lines_from (with_text algorithms) finished number users lines

-- the users, or the number of the first malformed line
unfoldable pub read_users : Algorithms → List ℕ → Result (List User) ℕ
read_users algorithms text = read_from algorithms 1 [] (slice_split (is 10) text)

-- ---- a line of the program

-- a user, or nothing
abbrev pub seen_user : NamedSecrets → User
seen_user n = record { name = n.name.now; secrets = n.secrets }

abbrev pub user_in : Line → Option User
user_in (UserLine user) = Some user
user_in (Comment text) = None
