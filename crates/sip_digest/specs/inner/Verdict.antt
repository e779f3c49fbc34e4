-- Whether a response is that of one who knows the password.
use Rattle.std.specs.Prelude.{ℕ, Bool, false, ◌&&◌, List, Option, Some, None}
use Rattle.std.specs.Str.{bytes_eq, str_to_ascii_lowercase}
use Rattle.sip_digest.specs.declared.algorithm.Algorithm.{Algorithm}
use Rattle.sip_digest.specs.declared.algorithm.Algorithms.{Algorithms}
use Rattle.sip_digest.specs.declared.secrets.Secrets.{Secrets}
use Rattle.sip_digest.specs.Algorithm.{is_among}
use Rattle.sip_digest.specs.Credentials.{Credentials}
use Rattle.sip_digest.specs.Response.{response_of}
use Rattle.sip_digest.specs.Right.{between_of, secret_of}

abbrev pub is_response : Algorithm → Option (List ℕ) → (response nonce between method uri : List ℕ) → Bool
is_response algorithm None response nonce between method uri = false
is_response algorithm (Some secret) response nonce between method uri = bytes_eq (str_to_ascii_lowercase response) (response_of algorithm secret nonce between method uri)

abbrev pub is_answer : Algorithms → Option Secrets → List ℕ → Credentials → Option Algorithm → Option (List ℕ) → Bool
is_answer algorithms secrets method c (Some algorithm) (Some between) =
    is_among algorithm algorithms && is_response algorithm (secret_of algorithm secrets) c.response c.nonce between method c.uri
is_answer algorithms secrets method c _ _ = false

abbrev pub is_answered : Algorithms → Option Secrets → List ℕ → Credentials → Bool
is_answered algorithms secrets method c = is_answer algorithms secrets method c c.algorithm (between_of c.quality)
