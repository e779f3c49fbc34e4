-- Requests that open a dialog.
use Rattle.std.specs.Prelude.{ℕ, Bool, false, ◌&&◌, ◌||◌, List, is_none, codes}
use Rattle.std.specs.Str.{bytes_eq}
use Rattle.sip_text.specs.declared.needed.MandatoryHeader.TheVariants.{To}
use Rattle.sip_text.specs.Fields.{value_of}
use Rattle.sip_lex.specs.Tag.{tag_in}
use Rattle.sip_text.specs.Text.{MessageText, StartText, Request, Response}

-- INVITE (RFC 3261 section 12.1), SUBSCRIBE (RFC 6665 section 4.1) and REFER (RFC 3515 section 2.4.4)
abbrev pub is_dialog_method : List ℕ → Bool
is_dialog_method method = bytes_eq method (codes "INVITE") || (bytes_eq method (codes "SUBSCRIBE") || bytes_eq method (codes "REFER"))

abbrev pub has_dialog_method : StartText → Bool
has_dialog_method (Request method uri) = is_dialog_method method
has_dialog_method (Response status reason) = false

-- of such a method, and outside of any dialog: its To has no tag (RFC 3261 section 12.2)
abbrev pub opens_dialog : MessageText → Bool
opens_dialog m = has_dialog_method m.start && is_none (tag_in (value_of To m.headers))
