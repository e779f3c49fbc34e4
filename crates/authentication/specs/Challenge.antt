-- Challenges (RFC 3261 sections 22.2 and 22.3).
use Rattle.std.specs.Prelude.{ℕ, Bool, List, [], ◌∷◌, map, Option, Some, None, codes}
use Rattle.sip_text.specs.Text.{HeaderText}
use Rattle.sip_via.specs.Edits.{line}
use Rattle.sip_build.specs.declared.responses.OwnStatus.{OwnStatus}
use Rattle.sip_build.specs.declared.responses.OwnStatus.TheVariants.{ProxyAuthenticationRequired, Unauthorized}
use Rattle.sip_digest.specs.declared.algorithm.Algorithm.{Algorithm}
use Rattle.sip_digest.specs.declared.algorithm.Algorithms.{Algorithms}
use Rattle.sip_digest.specs.Algorithm.{first_of, second_of}
use Rattle.sip_digest.specs.Challenge.{challenge_text}
use Rattle.authentication.specs.declared.challenge.Challenger.{Challenger}
use Rattle.authentication.specs.declared.challenge.Challenger.TheVariants.{Server, Proxy}

abbrev pub status_of : Challenger → OwnStatus
status_of Server = Unauthorized
status_of Proxy = ProxyAuthenticationRequired

abbrev pub challenge_name : Challenger → List ℕ
challenge_name Server = codes "WWW-Authenticate"
challenge_name Proxy = codes "Proxy-Authenticate"

abbrev pub credentials_name : Challenger → List ℕ
credentials_name Server = codes "authorization"
credentials_name Proxy = codes "proxy-authorization"

abbrev pub challenge_line : Challenger → (realm nonce : List ℕ) → (stale : Bool) → Algorithm → HeaderText
challenge_line challenger realm nonce stale algorithm = line (challenge_name challenger) (challenge_text realm nonce algorithm stale)

abbrev pub second_line : Challenger → (realm nonce : List ℕ) → (stale : Bool) → Option Algorithm → List HeaderText
second_line challenger realm nonce stale None = []
second_line challenger realm nonce stale (Some algorithm) = challenge_line challenger realm nonce stale algorithm ∷ []

-- one for each algorithm, in their order
abbrev pub challenge_lines : Challenger → (realm nonce : List ℕ) → (stale : Bool) → Algorithms → List HeaderText
challenge_lines challenger realm nonce stale algorithms =
    challenge_line challenger realm nonce stale (first_of algorithms) ∷ second_line challenger realm nonce stale (second_of algorithms)
