use Rattle.std.proofs.Common.{◌≡◌, ◌∙◌, ap, false, true, Some}
use Rattle.call_state.proofs.Matched.{known, same_target}
use Rattle.call_state.proofs.matching.target_of.Goals as goal

pub returns-then-eq-clause-only : goal.returns-then-eq-clause-only
returns-then-eq-clause-only c n e = same_target c.args.name c.args.call n (ap Some e)

pub returns-else-eq-clause-only : goal.returns-else-eq-clause-only
returns-else-eq-clause-only c n e =
    let wrong : false ≡ true = c.if-eq.ensures ∙ known c.args.name c.args.call n (ap Some e) in
    absurd cc
