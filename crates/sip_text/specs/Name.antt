-- Names of header fields: case is ignored, and some have a compact form (RFC 3261 sections 7.3.1
-- and 7.3.3).
use Rattle.std.specs.Prelude.{ℕ, Bool, List, [], ◌∷◌, Option, Some, None, if◌then◌else◌, codes, ◌==◌, unwrap_or}
use Rattle.std.specs.Str.{bytes_eq, str_to_ascii_lowercase}
use Rattle.std.specs.Char.{to_ascii_lowercase}
use Rattle.sip_text.specs.Text.{HeaderText}

-- the name that a lower case letter is the compact form of
abbrev pub name_of_letter : ℕ → Option (List ℕ)
name_of_letter b =
    if b == 118 then Some (codes "via")
    else (if b == 102 then Some (codes "from")
    else (if b == 116 then Some (codes "to")
    else (if b == 109 then Some (codes "contact")
    else (if b == 105 then Some (codes "call-id")
    else (if b == 108 then Some (codes "content-length")
    else (if b == 99 then Some (codes "content-type")
    else None))))))

-- a name with its compact form written out
unfoldable pub full_name : List ℕ → List ℕ
full_name (b ∷ []) = unwrap_or (name_of_letter (to_ascii_lowercase b)) (b ∷ [])
full_name name = name

-- two spellings of one name
abbrev pub same_name : List ℕ → List ℕ → Bool
same_name a b = bytes_eq (str_to_ascii_lowercase (full_name a)) (str_to_ascii_lowercase (full_name b))

-- the values of that name, in order
unfoldable pub values_of : List ℕ → List HeaderText → List (List ℕ)
values_of name [] = []
values_of name (h ∷ hs) = if same_name name h.name then h.value ∷ values_of name hs else values_of name hs

abbrev pub first_of : List (List ℕ) → Option (List ℕ)
first_of [] = None
first_of (v ∷ vs) = Some v

-- the value of the first header of that name
abbrev pub first_value : List ℕ → List HeaderText → Option (List ℕ)
first_value name hs = first_of (values_of name hs)
