-- A number behind a text at the front of a line.
use Rattle.std.proofs.Common.{◌≡◌, ◌∙◌, ℕ, List, ◌++◌, Option, None, Some, IfNone, ap, sym}
use Rattle.std.proofs.lemmas.List.{append_cancel_left}
use Rattle.std.proofs.lemmas.Option.{none-some}
use Rattle.sip_lex.specs.Number.{plain_number_within}
use Rattle.control_socket.specs.Commands.{IsNumbered}

-- what stands behind the text is no such number, so none is
pub no_number : (front line rest : List ℕ) (limit : ℕ) (read : Option ℕ) → line ≡ front ++ rest → read ≡ plain_number_within limit rest
    → IfNone read ((number : ℕ) → IsNumbered front limit line number → ⊥)
no_number front line rest limit None whole none = λ number is.
    none-some number (none ∙ ap (plain_number_within limit) (append_cancel_left front rest is.0 (sym whole ∙ is.1)) ∙ is.2)
no_number front line rest limit (Some number) whole some = tt
