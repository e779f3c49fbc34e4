-- What a password is known by (RFC 7616 section 3.4.2).
use Rattle.std.specs.Prelude.{ℕ, List, ◌++◌, Some, codes}
use Rattle.sip_digest.specs.declared.algorithm.Algorithm.TheVariants.{Md5, Sha256}
use Rattle.sip_digest.specs.declared.secrets.Secrets.{Secrets}
use Rattle.sip_digest.specs.Algorithm.{digest_text}

-- A1
abbrev pub password_text : (name realm password : List ℕ) → List ℕ
password_text name realm password = name ++ codes ":" ++ realm ++ codes ":" ++ password

-- H(A1), by each algorithm
abbrev pub secrets_of : (name realm password : List ℕ) → Secrets
secrets_of name realm password = record {
  md5 = Some (digest_text Md5 (password_text name realm password));
  sha256 = Some (digest_text Sha256 (password_text name realm password));
}
