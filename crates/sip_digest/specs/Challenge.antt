-- Challenges (RFC 3261 sections 20.27 and 20.44, RFC 7616 section 3.3).
use Rattle.std.specs.Prelude.{ℕ, Bool, List, [], ◌++◌, codes, if◌then◌else◌}
use Rattle.sip_digest.specs.Algorithm.{algorithm_name}
use Rattle.sip_digest.specs.declared.algorithm.Algorithm.{Algorithm}

-- where credentials came whose nonce is not good
abbrev pub stale_text : Bool → List ℕ
stale_text stale = if stale then codes ", stale=true" else []

abbrev pub parts_text : (realm nonce algorithm stale : List ℕ) → List ℕ
parts_text realm nonce algorithm stale =
    codes "Digest realm=\"" ++ (realm ++ (codes "\", qop=\"auth\", nonce=\"" ++ (nonce ++ (codes "\", algorithm=" ++ (algorithm ++ stale)))))

-- the value of the header field
abbrev pub challenge_text : (realm nonce : List ℕ) → Algorithm → (stale : Bool) → List ℕ
challenge_text realm nonce algorithm stale = parts_text realm nonce (algorithm_name algorithm) (stale_text stale)
