use Rattle.std.proofs.Common.{ℕ, List, ap, ◌∙◌}
use Rattle.sip_lex.specs.Values.{is_value}
use Rattle.registrar.proofs.shown.okay_with_date.Goals as goal

pub push-requires : goal.push-requires
push-requires g c = ap (λ (value : List ℕ). is_value value) c.in_ok-date.ensures.items ∙ c.requires
