-- Stamps are within a line.
use Rattle.sip_digest.proofs.Common.{◌≡◌, ℕ, zero, suc, Bool, true, List, [], ◌∷◌, ◌++◌, take, get_or, codes, refl, ap, ◌∙◌, arith, and_parts, list_all}
use Rattle.std.proofs.lemmas.Bool.{and_from}
use Rattle.std.specs.Int.{w32, to_be_bytes}
use Rattle.hex.specs.Hex.{encode_lower, encode_with, lower_digits}
use Rattle.sha2.specs.Sha256.{sha256}
use Rattle.sip_lex.specs.Values.{is_line, is_line_byte}
use Rattle.sip_digest.specs.Algorithm.{digest_text}
use Rattle.sip_digest.specs.Stamp.{nonce_text, seal_text, second_text, stamp_text, token_text}

passes-at : (p : ℕ → Bool) (xs : List ℕ) (k : ℕ) → list_all p xs ≡ true → p 0 ≡ true → p (get_or xs k 0) ≡ true
passes-at p [] k h z = z
passes-at p (x ∷ xs) zero h z = (and_parts (p x) (list_all p xs) h).0
passes-at p (x ∷ xs) (suc k) h z = passes-at p xs k (and_parts (p x) (list_all p xs) h).1 z

passes-take : (p : ℕ → Bool) (n : ℕ) (xs : List ℕ) → list_all p xs ≡ true → list_all p (take n xs) ≡ true
passes-take p zero xs h = refl
passes-take p (suc n) [] h = refl
passes-take p (suc n) (x ∷ xs) h =
    let each = and_parts (p x) (list_all p xs) h in
    and_from _ _ each.0 (passes-take p n xs each.1)

passes-append : (p : ℕ → Bool) (xs ys : List ℕ) → list_all p xs ≡ true → list_all p ys ≡ true → list_all p (xs ++ ys) ≡ true
passes-append p [] ys h k = k
passes-append p (x ∷ xs) ys h k =
    let each = and_parts (p x) (list_all p xs) h in
    and_from _ _ each.0 (passes-append p xs ys each.1 k)

hex-line : (bytes : List ℕ) → is_line (encode_lower bytes) ≡ true
unfolding encode_with
hex-line [] = refl
hex-line (b ∷ bytes) = grind (arith, passes-at is_line_byte lower_digits, and_from, hex-line bytes)

stamp_line : (digits : ℕ) (secret purpose : List ℕ) (second : ℕ) (about : List ℕ) → is_line (stamp_text digits secret purpose second about) ≡ true
unfolding digest_text
stamp_line digits secret purpose second about =
    passes-append is_line_byte (second_text second) (take digits (seal_text secret purpose second about)) (hex-line (to_be_bytes w32 second))
    (passes-take is_line_byte digits (seal_text secret purpose second about) (hex-line (sha256 (secret ++ purpose ++ second_text second ++ about))))

pub nonce_line : (secret address : List ℕ) (second : ℕ) → is_line (nonce_text secret address second) ≡ true
nonce_line secret address second = stamp_line 32 secret (codes "n") second address

pub token_line : (secret call_id : List ℕ) (second : ℕ) → is_line (token_text secret call_id second) ≡ true
token_line secret call_id second = stamp_line 16 secret (codes "d") second call_id
