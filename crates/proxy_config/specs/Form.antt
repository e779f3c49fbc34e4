-- What a line of a configuration should be, by its first word.
use Rattle.std.specs.Prelude.{ℕ, bytes_eq, List, codes, Option, Some, None, if◌then◌else◌}
use Rattle.sip_lex.specs.Cut.{cut, is}
use Rattle.proxy_config.specs.declared.form.Form.{Form}
use Rattle.proxy_config.specs.declared.form.Form.TheVariants as form
use Rattle.proxy_config.specs.TextLine.{line_at}

abbrev pub form_of_word : List ℕ → Form
form_of_word word =
    if bytes_eq word (codes "own") then form.Own
    else (if bytes_eq word (codes "instance") then form.Instance
    else (if bytes_eq word (codes "domain") then form.Domain
    else (if bytes_eq word (codes "prefer") then form.Prefer
    else (if bytes_eq word (codes "depth") then form.Depth
    else (if bytes_eq word (codes "location") then form.Location
    else form.Unknown)))))

-- by what stands before the first space, or by all of a line without one
abbrev pub form_of_line : List ℕ → Form
form_of_line line = form_of_word (cut (is 32) line).0

abbrev pub form_of : Option (List ℕ) → Form
form_of None = form.Missing
form_of (Some line) = form_of_line line

-- what the line with this number, counted from 1, should be
abbrev pub form_at : List ℕ → ℕ → Form
form_at text number = form_of (line_at text number)
