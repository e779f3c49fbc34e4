-- Challenges are values that a header line may have.
use Rattle.std.proofs.Common.{◌≡◌, ℕ, zero, suc, Bool, true, false, not, ◌&&◌, List, [], ◌∷◌, ◌++◌, take, get_or, length, ◌<◌, codes, reverse, refl, ap, ◌∙◌, arith}
use Rattle.std.proofs.lemmas.Bool.{and_parts}
use Rattle.std.specs.Int.{w32, to_be_bytes}
use Rattle.std.specs.List.{list_all}
use Rattle.hex.specs.Hex.{encode_lower, encode_with, lower_digits}
use Rattle.sha2.specs.Sha256.{sha256}
use Rattle.sip_lex.specs.Values.{begins_with_space, is_line, is_line_byte, is_trimmed, is_value}
use Rattle.sip_text.proofs.laws.Good.{and_both}
use Rattle.sip_text.specs.Message.{is_header}
use Rattle.sip_via.proofs.laws.Marked.{line-append}
use Rattle.sip_via.proofs.laws.OwnVia.{IsEnd, end-behind}
use Rattle.sip_via.specs.Edits.{line}
use Rattle.sip_digest.specs.declared.algorithm.Algorithm.{Algorithm}
use Rattle.sip_digest.specs.declared.algorithm.Algorithm.TheVariants.{Md5, Sha256}
use Rattle.sip_digest.specs.Algorithm.{algorithm_name, digest_text}
use Rattle.sip_digest.specs.Challenge.{challenge_text, stale_text}
pub use Rattle.sip_digest.proofs.laws.StampLines.{nonce_line}
use Rattle.authentication.specs.declared.challenge.Challenger.{Challenger}
use Rattle.authentication.specs.declared.challenge.Challenger.TheVariants.{Server, Proxy}
use Rattle.authentication.specs.Challenge.{challenge_line, challenge_name}
use Rattle.authentication.specs.Realm.{is_realm_byte}

-- ---- the name of a realm is within a line

realm_byte-line : (b : ℕ) → is_realm_byte b ≡ true → is_line_byte b ≡ true
realm_byte-line b h = grind arith

realm-line : (name : List ℕ) → list_all is_realm_byte name ≡ true → is_line name ≡ true
realm-line [] h = refl
realm-line (b ∷ name) h =
    let each = and_parts (is_realm_byte b) (list_all is_realm_byte name) h in
    and_both (is_line_byte b) (is_line name) (realm_byte-line b each.0) (realm-line name each.1)

-- ---- the whole

abbrev tail_of : Algorithm → Bool → List ℕ
tail_of algorithm stale = codes "\", algorithm=" ++ (algorithm_name algorithm ++ stale_text stale)

tail-line : (algorithm : Algorithm) (stale : Bool) → is_line (tail_of algorithm stale) ≡ true
tail-line Md5 true = refl
tail-line Md5 false = refl
tail-line Sha256 true = refl
tail-line Sha256 false = refl

tail-end : (algorithm : Algorithm) (stale : Bool) → IsEnd (tail_of algorithm stale)
tail-end Md5 true = record { some = omega arith; ends = refl }
tail-end Md5 false = record { some = omega arith; ends = refl }
tail-end Sha256 true = record { some = omega arith; ends = refl }
tail-end Sha256 false = record { some = omega arith; ends = refl }

value-from : (v : List ℕ) → is_line v ≡ true → begins_with_space v ≡ false → begins_with_space (reverse v) ≡ false → is_value v ≡ true
value-from v l f b = and_both (is_line v) (is_trimmed v) l (and_both (not (begins_with_space v)) (not (begins_with_space (reverse v))) (ap not f) (ap not b))

challenge-value : (realm nonce : List ℕ) (algorithm : Algorithm) (stale : Bool) → is_line realm ≡ true → is_line nonce ≡ true → is_value (challenge_text realm nonce algorithm stale) ≡ true
challenge-value realm nonce algorithm stale r n =
    let tail = tail_of algorithm stale in
    let middle = codes "\", qop=\"auth\", nonce=\"" in
    let front = codes "Digest realm=\"" in
    let whole = front ++ (realm ++ (middle ++ (nonce ++ tail))) in
    let is : IsEnd whole = end-behind front (realm ++ (middle ++ (nonce ++ tail))) (end-behind realm (middle ++ (nonce ++ tail)) (end-behind middle (nonce ++ tail) (end-behind nonce tail (tail-end algorithm stale)))) in
    let behind_middle = line-append middle (nonce ++ tail) refl (line-append nonce tail n (tail-line algorithm stale)) in
    value-from whole (line-append front (realm ++ (middle ++ (nonce ++ tail))) refl (line-append realm (middle ++ (nonce ++ tail)) r behind_middle)) refl is.ends

pub challenge_header : (challenger : Challenger) (realm nonce : List ℕ) (stale : Bool) (algorithm : Algorithm) → list_all is_realm_byte realm ≡ true → is_line nonce ≡ true
    → is_header (challenge_line challenger realm nonce stale algorithm) ≡ true
challenge_header Server realm nonce stale algorithm r n = challenge-value realm nonce algorithm stale (realm-line realm r) n
challenge_header Proxy realm nonce stale algorithm r n = challenge-value realm nonce algorithm stale (realm-line realm r) n

pub challenge_is_header : (challenger : Challenger) (name value realm nonce : List ℕ) (stale : Bool) (algorithm : Algorithm) → name ≡ challenge_name challenger
    → value ≡ challenge_text realm nonce algorithm stale → list_all is_realm_byte realm ≡ true → is_line nonce ≡ true → is_header (line name value) ≡ true
challenge_is_header challenger name value realm nonce stale algorithm named spelled r n =
    ap (λ (x : List ℕ). is_header (line x value)) named
    ∙ ap (λ (x : List ℕ). is_header (line (challenge_name challenger) x)) spelled
    ∙ challenge_header challenger realm nonce stale algorithm r n
