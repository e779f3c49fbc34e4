use Rattle.proxy_dispatch.proofs.Common.{◌∷◌, [], None, ap, seen_sent}
use Rattle.proxy_dispatch.specs.Becomes.{IsGiven}
use Rattle.proxy_dispatch.specs.Looks.{Seen}
use Rattle.proxy_dispatch.specs.declared.datagrams.Handled.TheVariants.{Delivered, Dropped}
use Rattle.proxy_dispatch.proofs.Outcomes.{outcome_at}
use Rattle.proxy_dispatch.proofs.Taking.{full_given, stray_given, taken_given}
use Rattle.proxy_dispatch.proofs.delivery.answered_by.Goals as goal

pub returns-in-Ok : goal.returns-in-Ok
returns-in-Ok g c = λ call new m source now is takes.
    outcome_at (λ handled sent. IsGiven c.args.number m source now (Seen c.args.number call new ∷ []) handled sent)
    c.silent.result.handled (Delivered c.args.number) (seen_sent c.silent.result.datagram) None
    c.silent.ensures.handled (ap seen_sent c.silent.ensures.silent) (taken_given c.args.number c.args.answer call new m source now is takes c.in-Ok.field-0 c.in-Ok.is)

pub returns-in-Stray : goal.returns-in-Stray
returns-in-Stray g c = λ call new m source now is takes.
    outcome_at (λ handled sent. IsGiven c.args.number m source now (Seen c.args.number call new ∷ []) handled sent)
    c.silent-in-Stray.result.handled Dropped (seen_sent c.silent-in-Stray.result.datagram) None
    c.silent-in-Stray.ensures.handled (ap seen_sent c.silent-in-Stray.ensures.silent)
    (stray_given c.args.number c.args.answer call new m source now is takes c.in-Err.fault c.in-Err.is c.in-Stray.is)

pub returns-in-Full : goal.returns-in-Full
returns-in-Full g c = λ call new m source now is takes.
    outcome_at (λ handled sent. IsGiven c.args.number m source now (Seen c.args.number call new ∷ []) handled sent)
    c.silent-in-Full.result.handled Dropped (seen_sent c.silent-in-Full.result.datagram) None
    c.silent-in-Full.ensures.handled (ap seen_sent c.silent-in-Full.ensures.silent)
    (full_given c.args.number c.args.answer call new m source now is takes c.in-Err.fault c.in-Err.is c.in-Full.is)
