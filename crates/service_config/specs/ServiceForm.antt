-- What a line of a service's configuration should be, by its first word.
use Rattle.std.specs.Prelude.{ℕ, bytes_eq, List, codes, Option, Some, None, if◌then◌else◌}
use Rattle.sip_lex.specs.Cut.{cut, is}
use Rattle.service_config.specs.declared.service_form.ServiceForm.{ServiceForm}
use Rattle.service_config.specs.declared.service_form.ServiceForm.TheVariants as form
use Rattle.proxy_config.specs.TextLine.{line_at}

-- by one of the words that a setup has not
abbrev pub form_of_service_word : List ℕ → ServiceForm
form_of_service_word word =
    if bytes_eq word (codes "ring") then form.Ring
    else (if bytes_eq word (codes "large") then form.Large
    else (if bytes_eq word (codes "realm") then form.Realm
    else (if bytes_eq word (codes "expires") then form.Expires
    else (if bytes_eq word (codes "strangers") then form.Strangers
    else (if bytes_eq word (codes "trust") then form.Trust
    else (if bytes_eq word (codes "gateway") then form.Gateway
    else form.Unknown))))))

abbrev pub service_form_of_word : List ℕ → ServiceForm
service_form_of_word word =
    if bytes_eq word (codes "own") then form.Own
    else (if bytes_eq word (codes "instance") then form.Instance
    else (if bytes_eq word (codes "domain") then form.Domain
    else (if bytes_eq word (codes "prefer") then form.Prefer
    else (if bytes_eq word (codes "depth") then form.Depth
    else (if bytes_eq word (codes "location") then form.Location
    else form_of_service_word word)))))

-- by what stands before the first space, or by all of a line without one
abbrev pub service_form_of_line : List ℕ → ServiceForm
service_form_of_line line = service_form_of_word (cut (is 32) line).0

abbrev pub service_form_of : Option (List ℕ) → ServiceForm
service_form_of None = form.Missing
service_form_of (Some line) = service_form_of_line line

-- what the line with this number, counted from 1, should be
abbrev pub service_form_at : List ℕ → ℕ → ServiceForm
service_form_at text number = service_form_of (line_at text number)
