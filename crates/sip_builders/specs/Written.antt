-- Texts that messages are written as (RFC 3261 section 7).
use Rattle.std.specs.Prelude.{◌≡◌, ℕ, List}
use Rattle.sip_text.specs.Message.{IsMessage}
use Rattle.sip_text.specs.Text.{MessageText, spelling}

-- some message is written so
abbrev pub IsWritten : List ℕ → Type 0
IsWritten text = (m : MessageText) × IsMessage m × (text ≡ spelling m)
