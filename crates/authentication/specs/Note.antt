-- What is noted of credentials that are wrong.
use Rattle.std.specs.Prelude.{ℕ, ◌&&◌, nat_lt, List, ◌∷◌, ◌++◌, codes, map, take, if◌then◌else◌}
use Rattle.std.specs.Fmt.{decimal}
use Rattle.sip_uri.specs.declared.hop.Hop.{Hop}
use Rattle.sip_via.specs.Address.{address_text}

-- what is no visible ASCII is a dot
abbrev pub shown_byte : ℕ → ℕ
shown_byte b = if nat_lt 32 b && nat_lt b 127 then b else 46

-- a word of 256 bytes at most
abbrev pub shown : List ℕ → List ℕ
shown text = map shown_byte (take 256 text)

abbrev pub from_text : Hop → List ℕ
from_text source = codes " from " ++ (address_text source.addr ++ (58 ∷ decimal source.port))

abbrev pub note_text : List ℕ → Hop → List ℕ
note_text name source = codes "wrong credentials for " ++ (shown name ++ from_text source)
