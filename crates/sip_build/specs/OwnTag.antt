-- The proxy's own tag (RFC 3261 section 19.3). Which fields are taken is this proxy's choice.
use Rattle.std.specs.Prelude.{ℕ, List, [], ◌∷◌, ◌++◌, take, codes}
use Rattle.md5.specs.Md5.{md5}
use Rattle.sip_text.specs.Text.{MessageText}
use Rattle.sip_lex.specs.HexPair.{hex_text}
use Rattle.sip_route.specs.Loop.{call_id, cseq_number, field_lines, from_tag}

abbrev pub tag_fields : MessageText → List (List ℕ)
tag_fields m = call_id m ∷ from_tag m ∷ cseq_number m ∷ []

-- `fp` and sixteen hexadecimal digits
unfoldable pub own_tag : MessageText → List ℕ
own_tag m = codes "fp" ++ hex_text (take 8 (md5 (field_lines (tag_fields m))))
