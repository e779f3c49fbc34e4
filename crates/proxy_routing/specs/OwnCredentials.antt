-- A request without its credentials for the realm of the proxy (RFC 3261 section 22.3).
use Rattle.std.specs.Prelude.{◌≡◌, ℕ, false, List, Option, Some, None}
use Rattle.sip_text.specs.Name.{same_name}
use Rattle.sip_text.specs.Text.{HeaderText, MessageText}
use Rattle.sip_digest.specs.OwnCredentials.{IsWithoutCredentials}
use Rattle.sip_via.specs.Edits.{with_headers}
use Rattle.sip_route.specs.Lines.{lines_among}

-- a proxy without a realm leaves them all
abbrev pub IsWithoutOwnCredentials : (realm : Option (List ℕ)) → (m request : MessageText) → Type 0
IsWithoutOwnCredentials None m request = request ≡ m
IsWithoutOwnCredentials (Some realm) m request =
    (lines : List HeaderText) × IsWithoutCredentials realm m.headers lines × (request ≡ with_headers m lines)

-- the same lines, but for those of one name
abbrev pub AreSameBut : (name : List ℕ) → (hs others : List HeaderText) → Type 0
AreSameBut name hs others = (other : List ℕ) → same_name name other ≡ false → lines_among other hs ≡ lines_among other others
