-- The Route value that names this proxy (RFC 3261 sections 16.4 and 20.34).
use Rattle.std.specs.Prelude.{ℕ, Bool, true, false, ◌&&◌, List, Option, Some, None, option_map, ◌==◌, if◌then◌else◌, codes}
use Rattle.std.specs.Str.{bytes_eq}
use Rattle.sip_lex.specs.declared.sheltered.Shelter.TheVariants.{Quotes, QuotesAndAngles}
use Rattle.sip_lex.specs.declared.sheltered.ShelterState.TheVariants.{Plain}
use Rattle.sip_lex.specs.Bytes.{trim}
use Rattle.sip_lex.specs.Cut.{cut, is}
use Rattle.sip_lex.specs.Sheltered.{cut_outside}
use Rattle.sip_text.specs.Name.{first_value}
use Rattle.sip_text.specs.Text.{HeaderText, MessageText}
use Rattle.sip_uri.specs.declared.hop.Hop.{Hop}
use Rattle.sip_uri.specs.Hop.{hop_if_read}
use Rattle.sip_uri.specs.Reading.{read_uri}
use Rattle.sip_via.specs.declared.own.Own.{Own}
use Rattle.sip_via.specs.Edits.{replaced, with_headers}

abbrev pub closed_text : List ℕ × Option (List ℕ) → Option (List ℕ)
closed_text (text, None) = None
closed_text (text, Some rest) = Some text

-- what stands in the first angle brackets outside quotes
abbrev pub bracketed_behind : Option (List ℕ) → Option (List ℕ)
bracketed_behind None = None
bracketed_behind (Some inner) = closed_text (cut (is 62) inner)

abbrev pub bracketed : List ℕ → Option (List ℕ)
bracketed value = bracketed_behind (cut_outside Quotes 60 Plain value).1

abbrev pub hop_at_text : Option (List ℕ) → Option Hop
hop_at_text None = None
hop_at_text (Some text) = hop_if_read (read_uri text)

-- the proxy itself: its address and its port, over whatever transport
abbrev pub is_own : Own → Option Hop → Bool
is_own own None = false
is_own own (Some hop) = bytes_eq hop.addr own.addr && hop.port == own.port

abbrev pub names_own : Own → List ℕ → Bool
names_own own value = is_own own (hop_at_text (bracketed value))

abbrev pub route_name : List ℕ
route_name = codes "route"

-- the line without its first value, or no line
abbrev pub without_first : Own → List HeaderText → List ℕ × Option (List ℕ) → List HeaderText
without_first own hs (value, others) = if names_own own value then replaced route_name (option_map trim others) hs else hs

abbrev pub stripped_at : Own → List HeaderText → Option (List ℕ) → List HeaderText
stripped_at own hs None = hs
stripped_at own hs (Some value) = without_first own hs (cut_outside QuotesAndAngles 44 Plain value)

abbrev pub stripped_headers : Own → List HeaderText → List HeaderText
stripped_headers own hs = stripped_at own hs (first_value route_name hs)

-- the first Route value is gone where its URI's hop is the proxy itself
abbrev pub stripped : MessageText → Own → MessageText
stripped m own = with_headers m (stripped_headers own m.headers)
