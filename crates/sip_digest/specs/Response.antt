-- The response to a challenge (RFC 7616 section 3.4.1 with `qop=auth`, RFC 2617 section 3.2.2.1 without `qop`).
use Rattle.std.specs.Prelude.{ℕ, List, [], ◌++◌, Option, Some, None, codes}
use Rattle.sip_digest.specs.Algorithm.{digest_text}
use Rattle.sip_digest.specs.declared.algorithm.Algorithm.{Algorithm}
use Rattle.sip_digest.specs.declared.response.Protection.{Protection}

-- what `qop=auth` puts between the nonce and H(A2): the count of the nonce, the nonce of the client, and `qop` itself
abbrev pub protection_text : (nc cnonce qop : List ℕ) → List ℕ
protection_text nc cnonce qop = nc ++ codes ":" ++ cnonce ++ codes ":" ++ qop ++ codes ":"

-- nothing without `qop`
abbrev pub between : Option Protection → List ℕ
between None = []
between (Some p) = protection_text p.nc.now p.cnonce.now p.qop.now

-- H(A2)
abbrev pub method_digest : Algorithm → (method uri : List ℕ) → List ℕ
method_digest algorithm method uri = digest_text algorithm (method ++ codes ":" ++ uri)

-- `secret` is H(A1) in hexadecimal digits, `protection` what stands between the nonce and H(A2)
abbrev pub response_of : Algorithm → (secret nonce protection method uri : List ℕ) → List ℕ
response_of algorithm secret nonce protection method uri =
    digest_text algorithm (secret ++ codes ":" ++ nonce ++ codes ":" ++ protection ++ method_digest algorithm method uri)
