use Rattle.fork_call.proofs.Common.{sym, subst, Call, Opens}
use Rattle.fork_call.proofs.call.Call.open.Goals as goal

pub returns-in-Ok-clause-opened : goal.returns-in-Ok-clause-opened
returns-in-Ok-clause-opened g c =
    let O : Call → Type 0 = λ x. Opens c.args.setup.now c.args.number c.args.request c.args.source x in
    subst O (sym c.numbered.ensures.becomes) (c.in-Ok.ensures.opened c.args.number)
