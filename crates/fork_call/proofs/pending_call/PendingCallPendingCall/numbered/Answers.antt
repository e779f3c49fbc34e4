use Rattle.fork_call.proofs.Common.{sym, subst, Call, IsTimed}
use Rattle.fork_call.proofs.pending_call.PendingCallPendingCall.numbered.Goals as goal

pub of-requires : goal.of-requires
of-requires g c =
    let T : Call → Type 0 = λ x. IsTimed x c.self.inside.schedule in
    subst T (sym c.set_number.ensures) (c.self.invariant c.args.number)
