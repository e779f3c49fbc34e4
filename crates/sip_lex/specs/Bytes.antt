-- Classes of bytes, and space at the ends of a text (RFC 3261 section 25.1).
use Rattle.std.specs.Prelude.{ℕ, ◌-◌, Bool, ◌||◌, ◌&&◌, ◌==◌, List, [], ◌∷◌, length, take, drop, nat_le, nat_lt}
use Rattle.std.specs.Char.{is_ascii_alphanumeric}
use Rattle.std.specs.List.{list_all, list_any, prefix_len, suffix_len}

-- WSP: a space or a tab
abbrev pub is_space : ℕ → Bool
is_space b = b == 32 || b == 9

-- one of -.!%*_+`'~
abbrev pub is_token_mark : ℕ → Bool
is_token_mark b = list_any (λ c. b == c) (45 ∷ 46 ∷ 33 ∷ 37 ∷ 42 ∷ 95 ∷ 43 ∷ 96 ∷ 39 ∷ 126 ∷ [])

abbrev pub is_token_byte : ℕ → Bool
is_token_byte b = is_ascii_alphanumeric b || is_token_mark b

-- token = 1*(alphanum / "-" / "." / "!" / "%" / "*" / "_" / "+" / "`" / "'" / "~")
abbrev pub is_token : List ℕ → Bool
is_token bs = nat_lt 0 (length bs) && list_all is_token_byte bs

-- without the space at the front, at the end, at both
abbrev pub trim_start : List ℕ → List ℕ
trim_start bs = drop (prefix_len is_space bs) bs

abbrev pub trim_end : List ℕ → List ℕ
trim_end bs = take (length bs - suffix_len is_space bs) bs

abbrev pub trim : List ℕ → List ℕ
trim bs = trim_end (trim_start bs)

-- a printed byte of ASCII other than space
abbrev pub is_printed : ℕ → Bool
is_printed b = nat_le 33 b && nat_le b 126
