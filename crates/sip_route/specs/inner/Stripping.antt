-- What is left of the first Route line, told by places in it, as it is changed where it stands.
use Rattle.std.specs.Prelude.{◌≡◌, ℕ, ◌<◌, true, false, List, length, take, drop, remove, option_map, Option, Some, None}
use Rattle.sip_lex.specs.Bytes.{trim}
use Rattle.sip_text.specs.Change.{valued_at}
use Rattle.sip_text.specs.Text.{HeaderText}
use Rattle.sip_via.specs.declared.own.Own.{Own}
use Rattle.sip_route.specs.declared.stripping.Left.{Left}
use Rattle.sip_route.specs.declared.stripping.Left.TheVariants.{All, Nothing, Part}
use Rattle.sip_route.specs.Routes.{names_own, stripped_headers}

-- the text from a place on, so many bytes of it
abbrev pub part : ℕ → ℕ → List ℕ → List ℕ
part start len text = take len (drop start text)

-- it stands within the text
abbrev pub IsPart : List ℕ → List ℕ → Left → Type 0
IsPart text whole All = ⊥
IsPart text whole Nothing = ⊥
IsPart text whole (Part start len) = part start len whole ≡ text

-- what is left of a line, which is cut at its first comma
abbrev pub LineLeaves : Own → List ℕ → List ℕ × Option (List ℕ) → Left → Type 0
LineLeaves own line (value, others) All = names_own own value ≡ false
LineLeaves own line (value, others) Nothing = (names_own own value ≡ true) × (others ≡ None)
LineLeaves own line (value, others) (Part start len) =
    (names_own own value ≡ true) × (option_map trim others ≡ Some (part start len line))

-- the header lines with the first Route line, which stands at this place, as it is left
abbrev pub Leaves : Own → List HeaderText → ℕ → Left → Type 0
Leaves own hs place All = stripped_headers own hs ≡ hs
Leaves own hs place Nothing = (place < length hs) × (stripped_headers own hs ≡ remove hs place)
Leaves own hs place (Part start len) = (place < length hs) × (stripped_headers own hs ≡ valued_at (λ v. take len (drop start v)) place hs)
