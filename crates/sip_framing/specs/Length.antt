-- What header lines say of the length of the body (RFC 3261 section 20.14).
use Rattle.std.specs.Prelude.{ℕ, Bool, true, false, ◌||◌, List, Option, Some, None, codes, ◌==◌, if◌then◌else◌}
use Rattle.std.specs.Str.{bytes_eq, str_to_ascii_lowercase}
use Rattle.sip_lex.specs.Bytes.{trim, trim_end}
use Rattle.sip_lex.specs.Cut.{cut, is}
use Rattle.sip_lex.specs.Values.{begins_with_space}
use Rattle.sip_lex.specs.Number.{length_number}
use Rattle.sip_framing.specs.declared.length.SaidLength.{SaidLength}
use Rattle.sip_framing.specs.declared.length.SaidLength.TheVariants.{Unsaid, Bytes, Wrong}
use Rattle.sip_framing.specs.declared.length.Heard.{Heard}

-- the long name or the compact one, in any case
abbrev pub is_length_name : List ℕ → Bool
is_length_name name = bytes_eq (str_to_ascii_lowercase name) (codes "content-length") || bytes_eq (str_to_ascii_lowercase name) (codes "l")

abbrev pub length_in_cut : List ℕ × Option (List ℕ) → Option (Option ℕ)
length_in_cut (front, None) = None
length_in_cut (front, Some raw) = if is_length_name (trim_end front) then Some (length_number (trim raw)) else None

-- what a line says of the length, if it is a Content-Length
abbrev pub length_in : List ℕ → Option (Option ℕ)
length_in line = length_in_cut (cut (is 58) line)

-- all that are there have to agree
abbrev pub agreed : SaidLength → Option ℕ → SaidLength
agreed Unsaid (Some n) = Bytes n
agreed (Bytes m) (Some n) = if m == n then Bytes m else Wrong
agreed said length = Wrong

abbrev pub unheard : Heard
unheard = record { is_begun = false; is_fresh = false; said = Unsaid }

abbrev pub with_length : Heard → Option (Option ℕ) → Heard
with_length heard None = record { is_begun = true; is_fresh = false; said = heard.said }
with_length heard (Some n) = record { is_begun = true; is_fresh = true; said = agreed heard.said n }

-- The first line is the start line. A line that begins with space continues the one before it; a Content-Length that is
-- continued is none.
abbrev pub heard_after : Heard → List ℕ → Heard
heard_after heard line =
    if heard.is_begun then
    (if begins_with_space line then record { is_begun = true; is_fresh = false; said = if heard.is_fresh then Wrong else heard.said }
    else with_length heard (length_in line))
    else record { is_begun = true; is_fresh = false; said = heard.said }
