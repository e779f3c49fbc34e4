-- Where the code that reads header lines stands in what reading gives.
use Rattle.std.specs.Prelude.{◌≡◌, ℕ, true, List, [], ◌∷◌, ◌++◌, Option, Some, None, Result, Ok, Err}
use Rattle.sip_lex.specs.Bytes.{is_token, trim_end}
use Rattle.sip_lex.specs.Cut.{cut, is}
use Rattle.sip_text.specs.Reading.{Fault, BadHeader, Headers, Tail, header_of, joined}
use Rattle.sip_text.specs.Text.{HeaderText}

abbrev pub or_bad : {X : Type 0} → Option X → Result X Fault
or_bad None = Err BadHeader
or_bad (Some x) = Ok x

-- a value, and the headers behind it
abbrev pub Valued : Type 0
Valued = List ℕ × List HeaderText × List (List ℕ)

-- a value and a line that continues it: no space is put in front
abbrev pub with_part : List ℕ → List ℕ → List ℕ
with_part [] part = part
with_part (b ∷ bs) part = b ∷ (bs ++ 32 ∷ part)

-- a value that the first lines continue
abbrev pub continued : List ℕ → Option Tail → Option Valued
continued value None = None
continued value (Some t) = Some (joined value t.parts, t.headers, t.rest)

abbrev pub valued : List ℕ → Option Headers → Option Valued
valued value None = None
valued value (Some x) = Some (value, x.0, x.1)

abbrev pub put : HeaderText → Option Headers → Option Headers
put h None = None
put h (Some x) = Some (h ∷ x.0, x.1)

abbrev pub put_if_any : Option HeaderText → Tail → Option Headers
put_if_any None t = None
put_if_any (Some h) t = Some (h ∷ t.headers, t.rest)

-- the header of a line, and what the lines behind it are
abbrev pub front_header : List ℕ → Option Tail → Option Headers
front_header line None = None
front_header line (Some t) = put_if_any (header_of line t.parts) t

abbrev pub prepended : List HeaderText → Option Headers → Option Headers
prepended hs None = None
prepended hs (Some x) = Some (hs ++ x.0, x.1)

-- what stands before the first colon of a line is this name with the space behind it, and what stands behind the colon is the rest
pub record IsNamed (line name rest : List ℕ) : Type 0 where
  pub front : List ℕ
  pub cuts : cut (is 58) line ≡ (front, Some rest)
  pub whole : line ≡ front ++ 58 ∷ rest
  pub trimmed : name ≡ trim_end front
  pub token : is_token (trim_end front) ≡ true
