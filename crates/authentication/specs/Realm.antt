-- The realm that credentials are asked for, and who has a password there (RFC 3261 section 22.1).
use Rattle.std.specs.Prelude.{ℕ, Bool, not, ◌==◌, ◌&&◌, ◌||◌, List, Option, nat_le}
use Rattle.sip_digest.specs.declared.algorithm.Algorithms.{Algorithms}
use Rattle.sip_digest.specs.declared.secrets.Secrets.{Secrets}

pub record Realm : Type 0 where
  pub name : List ℕ
  pub algorithms : Algorithms
  -- what the password of a user is known by, if there is one
  pub secrets : List ℕ → Option Secrets
  -- what its nonces are made with
  pub secret : List ℕ

-- visible, and neither `"` nor `\`
abbrev pub is_realm_byte : ℕ → Bool
is_realm_byte b = nat_le 33 b && nat_le b 126 && not (b == 34 || b == 92)
