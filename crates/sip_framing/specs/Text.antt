-- Which texts of messages are messages of a stream (RFC 3261 sections 7.3.1, 7.5 and 18.3).
use Rattle.std.specs.Prelude.{◌≡◌, ◌⊎◌, ◌≢◌, ℕ, false, List, [], ◌∷◌, ◌++◌, None}
use Rattle.sip_lex.specs.Values.{begins_with_space}
use Rattle.sip_text.specs.declared.fields.BodyLength.TheVariants.{Unsaid}
use Rattle.sip_text.specs.Fields.{said_length}
use Rattle.sip_text.specs.Grammar.{IsText, blank_lines}
use Rattle.sip_text.specs.Text.{MessageText}
use Rattle.sip_framing.specs.Length.{length_in}
use Rattle.sip_framing.specs.Message.{IsFramed}

-- no line continues a Content-Length
abbrev pub AreUnfolded : List (List ℕ) → Type 0
AreUnfolded [] = Unit {0}
AreUnfolded (line ∷ []) = Unit {0}
AreUnfolded (line ∷ next ∷ lines) = ((length_in line ≡ None) ⊎ (begins_with_space next ≡ false)) × AreUnfolded (next ∷ lines)

-- A text that is read as a message, with nothing behind its body, says the length of that body, and says it on no line that another
-- one continues. Behind the line ends at its front it is a message of a stream.
abbrev pub TextsAreFramed : Type 0
TextsAreFramed = (text : List ℕ) (m : MessageText) (t : IsText text m) → t.rest ≡ m.body → said_length m.headers ≢ Unsaid → AreUnfolded t.lines
    → (message : List ℕ) × (text ≡ blank_lines t.blank ++ message) × IsFramed message
