use Rattle.std.proofs.Common.{ℕ, List, ap, ◌∙◌}
use Rattle.sip_lex.specs.Values.{is_value}
use Rattle.registrar.specs.Shown.{okay}
use Rattle.registrar.proofs.Dates.{date_value}
use Rattle.registrar.proofs.shown.okay.Goals as goal

pub okay_with_date-requires : goal.okay_with_date-requires
okay_with_date-requires g c = ap (λ (text : List ℕ). is_value text) c.to_bytes-text.ensures ∙ date_value c.date_of-date.result

pub returns : goal.returns
returns g c =
    (c.date_of-date.result, c.date_of-date.ensures, c.in_ok-answer.ensures ∙ ap (λ (text : List ℕ). okay c.args.moment text c.args.bindings.now) c.to_bytes-text.ensures)
