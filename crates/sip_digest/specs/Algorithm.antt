-- The algorithms of Digest authentication (RFC 7616 section 3.2, RFC 8760 section 2.1).
use Rattle.std.specs.Prelude.{ℕ, Bool, true, false, ◌||◌, List, Option, Some, None, codes, if◌then◌else◌}
use Rattle.std.specs.Str.{bytes_eq, str_to_ascii_lowercase}
use Rattle.hex.specs.Hex.{encode_lower}
use Rattle.md5.specs.Md5.{md5}
use Rattle.sha2.specs.Sha256.{sha256}
use Rattle.sip_digest.specs.declared.algorithm.Algorithm.{Algorithm}
use Rattle.sip_digest.specs.declared.algorithm.Algorithm.TheVariants.{Md5, Sha256}
use Rattle.sip_digest.specs.declared.algorithm.Algorithms.{Algorithms}
use Rattle.sip_digest.specs.declared.algorithm.Algorithms.TheVariants as algorithms

abbrev pub algorithm_name : Algorithm → List ℕ
algorithm_name Md5 = codes "MD5"
algorithm_name Sha256 = codes "SHA-256"

-- the algorithm of this name, in any case: a name is a token (RFC 3261 section 7.3.1)
abbrev pub algorithm_named : List ℕ → Option Algorithm
algorithm_named name =
    if bytes_eq (str_to_ascii_lowercase name) (codes "md5") then Some Md5
    else (if bytes_eq (str_to_ascii_lowercase name) (codes "sha-256") then Some Sha256 else None)

-- H, in hexadecimal digits
unfoldable pub digest_text : Algorithm → List ℕ → List ℕ
digest_text Md5 bytes = encode_lower (md5 bytes)
digest_text Sha256 bytes = encode_lower (sha256 bytes)

-- ---- those of a realm, in the order of their challenges

abbrev pub first_of : Algorithms → Algorithm
first_of algorithms.Md5 = Md5
first_of algorithms.Sha256 = Sha256
first_of algorithms.Sha256AndMd5 = Sha256
first_of algorithms.Md5AndSha256 = Md5

abbrev pub second_of : Algorithms → Option Algorithm
second_of algorithms.Md5 = None
second_of algorithms.Sha256 = None
second_of algorithms.Sha256AndMd5 = Some Md5
second_of algorithms.Md5AndSha256 = Some Sha256

abbrev pub is_md5 : Algorithm → Bool
is_md5 Md5 = true
is_md5 Sha256 = false

abbrev pub is_same : Algorithm → Algorithm → Bool
is_same Md5 other = is_md5 other
is_same Sha256 Md5 = false
is_same Sha256 Sha256 = true

abbrev pub is_same_as : Algorithm → Option Algorithm → Bool
is_same_as algorithm None = false
is_same_as algorithm (Some other) = is_same algorithm other

-- the realm has this algorithm
abbrev pub is_among : Algorithm → Algorithms → Bool
is_among algorithm them = is_same algorithm (first_of them) || is_same_as algorithm (second_of them)

-- how a configuration names them
abbrev pub algorithms_named : List ℕ → Option Algorithms
algorithms_named text =
    if bytes_eq text (codes "MD5") then Some algorithms.Md5
    else (if bytes_eq text (codes "SHA-256") then Some algorithms.Sha256
    else (if bytes_eq text (codes "SHA-256,MD5") then Some algorithms.Sha256AndMd5
    else (if bytes_eq text (codes "MD5,SHA-256") then Some algorithms.Md5AndSha256
    else None)))
