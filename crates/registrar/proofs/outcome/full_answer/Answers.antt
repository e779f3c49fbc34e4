use Rattle.std.proofs.Common.{ℕ, List, codes, ap}
use Rattle.sip_text.specs.Message.{is_header}
use Rattle.sip_via.specs.Edits.{line}
use Rattle.registrar.proofs.outcome.full_answer.Goals as goal

pub push-requires : goal.push-requires
push-requires g c = ap (λ (value : List ℕ). is_header (line (codes "Retry-After") value)) c.in_ok-value.ensures.items
