-- Texts that nobody else can make, and that say when they were made: nonces that need no memory (RFC 7616 section 3.3),
-- and the tokens by which the requests of a dialog are known.
use Rattle.std.specs.Prelude.{◌≡◌, ◌+◌, ◌<◌, ◌≤◌, ℕ, List, ◌++◌, take, codes}
use Rattle.std.specs.Int.{w32, to_be_bytes}
use Rattle.hex.specs.Hex.{encode_lower}
use Rattle.sip_digest.specs.Algorithm.{digest_text}
use Rattle.sip_digest.specs.declared.algorithm.Algorithm.TheVariants.{Sha256}

-- a second since 1970 in eight hexadecimal digits
abbrev pub second_text : ℕ → List ℕ
second_text second = encode_lower (to_be_bytes w32 second)

-- the digits of the digest: what a stamp is for, when it was made, and whom or what it is about
abbrev pub seal_text : (secret purpose : List ℕ) (second : ℕ) (about : List ℕ) → List ℕ
seal_text secret purpose second about = digest_text Sha256 (secret ++ purpose ++ second_text second ++ about)

-- the second, and so many digits of the digest
abbrev pub stamp_text : (digits : ℕ) (secret purpose : List ℕ) (second : ℕ) (about : List ℕ) → List ℕ
stamp_text digits secret purpose second about = second_text second ++ take digits (seal_text secret purpose second about)

-- it was made at a second that is not in the future, and less than so many seconds ago
pub record IsStamp (digits life : ℕ) (secret purpose about : List ℕ) (now : ℕ) (text : List ℕ) : Type 0 where
  pub second : ℕ
  pub spelled : text ≡ stamp_text digits secret purpose second about
  pub begun : second ≤ now
  pub lasts : now < second + life

-- ---- nonces, for the address that one is given to

abbrev pub nonce_life : ℕ
nonce_life = 300

abbrev pub nonce_text : (secret address : List ℕ) (second : ℕ) → List ℕ
nonce_text secret address second = stamp_text 32 secret (codes "n") second address

abbrev pub IsGoodNonce : (secret address : List ℕ) (now : ℕ) (nonce : List ℕ) → Type 0
IsGoodNonce secret address now nonce = IsStamp 32 nonce_life secret (codes "n") address now nonce

-- ---- tokens of dialogs, for the Call-ID

abbrev pub token_life : ℕ
token_life = 86400

abbrev pub token_text : (secret call_id : List ℕ) (second : ℕ) → List ℕ
token_text secret call_id second = stamp_text 16 secret (codes "d") second call_id

abbrev pub IsGoodToken : (secret call_id : List ℕ) (now : ℕ) (token : List ℕ) → Type 0
IsGoodToken secret call_id now token = IsStamp 16 token_life secret (codes "d") call_id now token
