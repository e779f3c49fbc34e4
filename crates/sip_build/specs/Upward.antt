-- A response as it goes upstream (RFC 3261 section 16.7).
use Rattle.std.specs.Prelude.{◌≡◌, ℕ, Bool, true, List, ◌++◌, map, Option, Some, None, Result, Ok, Err, option_map, if◌then◌else◌, codes}
use Rattle.std.specs.List.{list_all}
use Rattle.fork_model.specs.Table as table
use Rattle.sip_lex.specs.declared.sheltered.Shelter.TheVariants.{Quotes}
use Rattle.sip_lex.specs.declared.sheltered.ShelterState.TheVariants.{Plain}
use Rattle.sip_lex.specs.Bytes.{trim}
use Rattle.sip_lex.specs.Sheltered.{cut_outside}
use Rattle.sip_text.specs.Message.{is_value}
use Rattle.sip_text.specs.Name.{first_value}
use Rattle.sip_text.specs.Text.{HeaderText, MessageText}
use Rattle.sip_via.specs.declared.own.BuildFault.{BuildFault}
use Rattle.sip_via.specs.declared.own.BuildFault.TheVariants.{LastVia, NoMemory}
use Rattle.sip_via.specs.Edits.{line, replaced, with_headers}
use Rattle.sip_via.specs.TopVia.{has_second, via_values}
use Rattle.sip_build.specs.Exchanged.{exchanged}

-- what is left of a line without its first value
abbrev pub others_of : Option (List ℕ) → Option (List ℕ)
others_of None = None
others_of (Some value) = option_map trim (cut_outside Quotes 44 Plain value).1

-- the top Via value is gone, and its line where it was alone there
abbrev pub without_top : List HeaderText → List HeaderText
without_top hs = replaced (codes "via") (others_of (first_value (codes "via") hs)) hs

abbrev pub contact_lines : List (List ℕ) → List HeaderText
contact_lines kept = map (line (codes "Contact")) kept

-- a line for each contact that is kept, in the place of all Contact lines
abbrev pub with_contacts : Option (List (List ℕ)) → List HeaderText → List HeaderText
with_contacts None hs = hs
with_contacts (Some kept) hs = exchanged (codes "contact") (contact_lines kept) hs

abbrev pub challenge_name : (proxy : Bool) → List ℕ
challenge_name proxy = if proxy then codes "Proxy-Authenticate" else codes "WWW-Authenticate"

abbrev pub challenge_line : table.Challenge → HeaderText
challenge_line c = line (challenge_name c.proxy) c.value

-- without the top Via value, with the contacts kept, and with the challenges last
abbrev pub upward_headers : List HeaderText → Option (List (List ℕ)) → List table.Challenge → List HeaderText
upward_headers hs kept challenges = with_contacts kept (without_top hs) ++ map challenge_line challenges

abbrev pub upward_of : MessageText → Option (List (List ℕ)) → List table.Challenge → MessageText
upward_of m kept challenges = with_headers m (upward_headers m.headers kept challenges)

-- a response with one Via value was meant for the proxy itself
abbrev pub upward : MessageText → Option (List (List ℕ)) → List table.Challenge → Result MessageText BuildFault
upward m kept challenges = if has_second (via_values m) then Ok (upward_of m kept challenges) else Err LastVia

-- why a response isn't built: memory alone can be wanting where it could be
abbrev pub refusal : MessageText → BuildFault
refusal m = if has_second (via_values m) then NoMemory else LastVia

-- ---- what the caller gives

abbrev pub AreKept : Option (List (List ℕ)) → Type 0
AreKept None = Unit {0}
AreKept (Some kept) = list_all is_value kept ≡ true

abbrev pub is_challenge : table.Challenge → Bool
is_challenge c = is_value c.value
