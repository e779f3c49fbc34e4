-- What stands behind the host and port of a URI.
use Rattle.std.specs.Prelude.{ℕ, List, [], ◌∷◌, ◌+◌, drop, Option, Some, None, ◌==◌, ◌||◌, if◌then◌else◌}
use Rattle.sip_lex.specs.Cut.{cut, is}
use Rattle.sip_uri.specs.Reading.{user_of}

-- how many bytes stand before the first `;` or `?`
abbrev pub front_len : List ℕ → ℕ
front_len [] = 0
front_len (b ∷ bs) = if b == 59 || b == 63 then 0 else 1 + front_len bs

-- the parameters and headers
abbrev pub tail_of : List ℕ → List ℕ
tail_of text =
    let rest = (user_of (cut (is 64) (drop 4 text))).1 in
    drop (front_len rest) rest

abbrev pub behind_first : List ℕ → Option (List ℕ)
behind_first [] = None
behind_first (b ∷ bs) = Some bs

-- the parameters in them
abbrev pub params_in : List ℕ → Option (List ℕ)
params_in tail = behind_first (cut (is 63) tail).0
