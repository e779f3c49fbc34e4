-- The Reason lines of a message, line by line (RFC 3326).
use Rattle.std.specs.Prelude.{List, [], ◌∷◌, codes, if◌then◌else◌}
use Rattle.sip_text.specs.Name.{same_name}
use Rattle.sip_text.specs.Text.{HeaderText}

-- a header line, if it is one
abbrev pub reason_in : HeaderText → List HeaderText
reason_in h = if same_name (codes "reason") h.name then h ∷ [] else []
