-- Messages of which one header line is changed or taken away, told by its place among them.
use Rattle.std.specs.Prelude.{ℕ, zero, suc, List, [], ◌∷◌, drop, remove, take}
use Rattle.sip_text.specs.Text.{HeaderText, MessageText}

-- the header lines with the value of one as it is changed; its name stays
abbrev pub valued_at : (List ℕ → List ℕ) → ℕ → List HeaderText → List HeaderText
valued_at change place [] = []
valued_at change zero (h ∷ hs) = record { name = h.name; value = change h.value } ∷ hs
valued_at change (suc place) (h ∷ hs) = h ∷ valued_at change place hs

abbrev pub with_headers : MessageText → List HeaderText → MessageText
with_headers m hs = record { start = m.start; headers = hs; body = m.body }

-- the message with another value in one line
abbrev pub with_value_at : ℕ → List ℕ → MessageText → MessageText
with_value_at place value m = with_headers m (valued_at (λ _. value) place m.headers)

-- the message with a part of the value in one line: so many bytes from a place on
abbrev pub with_part_at : ℕ → ℕ → ℕ → MessageText → MessageText
with_part_at place start len m = with_headers m (valued_at (λ v. take len (drop start v)) place m.headers)

-- the message without one line
abbrev pub without_line_at : ℕ → MessageText → MessageText
without_line_at place m = with_headers m (remove m.headers place)
