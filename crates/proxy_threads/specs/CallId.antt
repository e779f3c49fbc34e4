-- The Call-ID of a datagram as it is found before anything else of it is read, and the group of calls that its call is of.
use Rattle.std.specs.Prelude.{ℕ, Bool, true, false, ◌&&◌, ◌||◌, ◌-◌, List, [], ◌∷◌, length, take, drop, Option, Some, None, option_and_then, nat_le, ◌==◌, ◌%◌, if◌then◌else◌, codes}
use Rattle.std.specs.Hash.FoldHasher.{initial, write, finish}
use Rattle.std.specs.Option.{option_map, option_or}
use Rattle.std.specs.Str.{bytes_eq, str_to_ascii_lowercase}
use Rattle.sip_lex.specs.Bytes.{is_space, trim_start}

-- ---- the header field (RFC 3261 sections 7.3.1, 7.3.3 and 20.8)

-- what stands behind a name at the front, in any case
abbrev pub behind_name : List ℕ → List ℕ → Option (List ℕ)
behind_name name text = if bytes_eq (str_to_ascii_lowercase (take (length name) text)) name then Some (drop (length name) text) else None

abbrev pub behind_long_name : List ℕ → Option (List ℕ)
behind_long_name text = behind_name (codes "call-id") text

abbrev pub behind_compact_name : List ℕ → Option (List ℕ)
behind_compact_name text = behind_name (codes "i") text

abbrev pub after_colon : List ℕ → Option (List ℕ)
after_colon [] = None
after_colon (b ∷ bs) = if b == 58 then Some bs else None

-- no more than space stands before the colon
abbrev pub value_at : List ℕ → Option (List ℕ)
value_at text = option_and_then (λ rest. after_colon (trim_start rest)) (option_or (behind_long_name text) (behind_compact_name text))

-- ---- its value

abbrev pub begins_with_space : List ℕ → Bool
begins_with_space [] = false
begins_with_space (b ∷ bs) = is_space b

-- space, and the end of a line that the next one continues
abbrev pub is_blank : ℕ → List ℕ → Bool
is_blank b behind = is_space b || b == 13 || (b == 10 && begins_with_space behind)

abbrev pub skip_blanks : List ℕ → List ℕ
skip_blanks [] = []
skip_blanks (b ∷ bs) = if is_blank b bs then skip_blanks bs else b ∷ bs

-- what stands behind the word at the front
abbrev pub skip_word : List ℕ → List ℕ
skip_word [] = []
skip_word (b ∷ bs) = if nat_le b 32 then b ∷ bs else skip_word bs

-- the first word: a Call-ID has no space in it
abbrev pub first_word : List ℕ → List ℕ
first_word text = take (length (skip_blanks text) - length (skip_word (skip_blanks text))) (skip_blanks text)

-- ---- the first line that is a Call-ID, behind the start line

abbrev pub found_or : Option (List ℕ) → Option (List ℕ) → Option (List ℕ)
found_or None later = later
found_or (Some value) later = Some (first_word value)

-- true: a line begins here
unfoldable pub found_in : Bool → List ℕ → Option (List ℕ)
found_in starts [] = None
found_in true (b ∷ bs) = found_or (value_at (b ∷ bs)) (found_in (b == 10) bs)
found_in false (b ∷ bs) = found_in (b == 10) bs

abbrev pub call_id : List ℕ → Option (List ℕ)
call_id text = found_in false text

-- ---- the group of its call

-- the kit's hash of a text
abbrev pub digest_of : List ℕ → ℕ
digest_of text = finish (write initial text)

-- one of 256 groups of calls; a datagram without a Call-ID is of none
abbrev pub group_of : List ℕ → Option ℕ
group_of text = option_map (λ word. digest_of word % 256) (call_id text)
