-- Datagrams that only keep a path through a translator of addresses open.
use Rattle.std.specs.Prelude.{ℕ, Bool, ◌||◌, ◌==◌, List, [], ◌∷◌, bytes_eq}
use Rattle.std.specs.List.{list_all}

-- a byte of a line end: CR or LF
abbrev pub is_line_end : ℕ → Bool
is_line_end b = b == 13 || b == 10

-- four zero bytes, or line ends alone, as in the empty datagram
abbrev pub is_keep_alive : List ℕ → Bool
is_keep_alive datagram = bytes_eq datagram (0 ∷ 0 ∷ 0 ∷ 0 ∷ []) || list_all is_line_end datagram
