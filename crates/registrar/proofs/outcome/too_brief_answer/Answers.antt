use Rattle.std.proofs.Common.{codes, refl, arith}
use Rattle.registrar.proofs.Values.{decimal_header}
use Rattle.registrar.proofs.outcome.too_brief_answer.Goals as goal

pub push-requires : goal.push-requires
push-requires g c = decimal_header (codes "Min-Expires") c.in_ok-value.value.items c.args.least refl c.in_ok-value.ensures (omega (arith, c.ranges.least))
