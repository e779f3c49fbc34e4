-- Texts that may stand as the value of a header field, or as a part of it between commas (RFC 3261 section 7.3.1).
use Rattle.std.specs.Prelude.{ℕ, Bool, false, ◌&&◌, not, List, [], ◌∷◌, reverse, ◌==◌}
use Rattle.std.specs.List.{list_all}
use Rattle.sip_lex.specs.Bytes.{is_space}

-- no CR and no LF
abbrev pub is_line_byte : ℕ → Bool
is_line_byte b = not (b == 13) && not (b == 10)

abbrev pub is_line : List ℕ → Bool
is_line bs = list_all is_line_byte bs

abbrev pub begins_with_space : List ℕ → Bool
begins_with_space [] = false
begins_with_space (b ∷ bs) = is_space b

abbrev pub is_trimmed : List ℕ → Bool
is_trimmed bs = not (begins_with_space bs) && not (begins_with_space (reverse bs))

-- within a line, and without space at its ends
abbrev pub is_value : List ℕ → Bool
is_value bs = is_line bs && is_trimmed bs
