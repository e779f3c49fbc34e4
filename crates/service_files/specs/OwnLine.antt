-- The text of a configuration where the own address is said elsewhere.
use Rattle.std.specs.Prelude.{ℕ, Bool, true, false, not, ◌==◌, ◌&&◌, List, [], ◌∷◌, ◌++◌, Option, Some, None, bytes_eq, codes, drop, if◌then◌else◌}
use Rattle.sip_lex.specs.Cut.{cut, is}
use Rattle.std.specs.Fmt.{decimal}
use Rattle.sip_via.specs.Address.{address_text}
use Rattle.sip_via.specs.declared.own.Own.{Own}

-- the line of this address
abbrev pub own_line : Own → List ℕ
own_line own = codes "own " ++ (address_text own.addr ++ (32 ∷ (decimal own.port ++ (10 ∷ []))))

-- a line of the own address says nothing once its first letter is a `#`
abbrev pub without_word : List ℕ → List ℕ
without_word text = if bytes_eq (cut (is 32) text).0 (codes "own") then 35 ∷ drop 1 text else text

-- an empty line says nothing, and neither does one that begins with `#`: within such a line, or not, a byte begins one that does, and
-- behind it the text is within one that does not
abbrev pub begins_line : (within : Bool) → ℕ → Bool
begins_line true b = false
begins_line false b = not (b == 10) && not (b == 35)

abbrev pub still_within : (within : Bool) → ℕ → Bool
still_within true b = not (b == 10)
still_within false b = b == 35

-- the first line that says something is without its word, where that is the own address's
abbrev pub without_own : (within : Bool) → List ℕ → List ℕ
without_own within [] = []
without_own within (b ∷ bs) = if begins_line within b then without_word (b ∷ bs) else b ∷ without_own (still_within within b) bs

-- the text that a proxy at this address goes by, where it is said elsewhere
abbrev pub text_at : Option Own → List ℕ → List ℕ
text_at None text = text
text_at (Some own) text = own_line own ++ without_own false text
