-- Users, and the lines that name them.
use Rattle.std.specs.Prelude.{◌≡◌, ℕ, Bool, true, false, ◌||◌, ◌&&◌, not, List, [], ◌∷◌, ◌++◌, length, Option, Some, None, is_some, codes, ◌==◌, nat_le, if◌then◌else◌}
use Rattle.std.specs.Char.{is_ascii_digit}
use Rattle.std.specs.Int.{is_in_range}
use Rattle.std.specs.List.{list_all}
use Rattle.std.specs.Str.{bytes_eq}
use Rattle.fork_rank.specs.Field.{is_visible}
use Rattle.sip_digest.specs.Algorithm.{first_of, second_of}
use Rattle.sip_digest.specs.Right.{secret_of}
use Rattle.sip_digest.specs.declared.algorithm.Algorithm.{Algorithm}
use Rattle.sip_digest.specs.declared.algorithm.Algorithms.{Algorithms}
use Rattle.sip_digest.specs.declared.secrets.Secrets.{Secrets}

-- a name, and H(A1) of its password in hexadecimal digits, by each algorithm by which it is kept
pub record User : Type 0 where
  pub name : List ℕ
  pub secrets : Secrets

-- ---- names

-- visible, and none of `:`, `"` and `\`
abbrev pub is_name_byte : ℕ → Bool
is_name_byte b = is_visible b && not (b == 58 || b == 34 || b == 92)

abbrev pub begins_with_hash : List ℕ → Bool
begins_with_hash [] = false
begins_with_hash (b ∷ bs) = b == 35

-- 1 to 64 such bytes; a line that begins with `#` is a comment
abbrev pub is_name : List ℕ → Bool
is_name name = (nat_le 1 (length name) && nat_le (length name) 64) && list_all is_name_byte name && not (begins_with_hash name)

-- ---- digits

-- `0` to `9`, `a` to `f`
abbrev pub is_lower_hexadecimal : ℕ → Bool
is_lower_hexadecimal b = is_ascii_digit b || is_in_range 97 102 b

-- none, or so many digits
abbrev pub is_digest : ℕ → Option (List ℕ) → Bool
is_digest n None = true
is_digest n (Some digits) = length digits == n && list_all is_lower_hexadecimal digits

-- `-` where there are none
abbrev pub digest_text : Option (List ℕ) → List ℕ
digest_text None = codes "-"
digest_text (Some digits) = digits

abbrev pub has_if_any : Secrets → Option Algorithm → Bool
has_if_any secrets None = true
has_if_any secrets (Some algorithm) = is_some (secret_of algorithm (Some secrets))

-- there are digits for each algorithm of the realm
abbrev pub has_needed : Algorithms → Secrets → Bool
has_needed algorithms secrets = has_if_any secrets (Some (first_of algorithms)) && has_if_any secrets (second_of algorithms)

-- ---- users

pub record IsUser (algorithms : Algorithms) (user : User) : Type 0 where
  pub name : is_name user.name ≡ true
  pub md5 : is_digest 32 user.secrets.md5 ≡ true
  pub sha256 : is_digest 64 user.secrets.sha256 ≡ true
  pub needed : has_needed algorithms user.secrets ≡ true

abbrev pub user_text : User → List ℕ
user_text user = user.name ++ 32 ∷ (digest_text user.secrets.md5 ++ 32 ∷ digest_text user.secrets.sha256)

abbrev pub is_named : List ℕ → User → Bool
is_named name user = bytes_eq user.name name

-- what the first user of this name has
abbrev pub secrets_named : List ℕ → List User → Option Secrets
secrets_named name [] = None
secrets_named name (user ∷ users) = if is_named name user then Some user.secrets else secrets_named name users

abbrev pub user_of : List ℕ → Secrets → User
user_of name secrets = record { name = name; secrets = secrets }
