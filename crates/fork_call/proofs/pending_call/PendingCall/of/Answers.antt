use Rattle.call_model.specs.Call.{numbered}
use Rattle.fork_call.specs.Opening.{with_token}
use Rattle.fork_call.proofs.Opened.{reached_timed, reaches_numbered}
use Rattle.fork_call.proofs.pending_call.PendingCall.of.Goals as goal

pub invariant_of-result : goal.invariant_of-result
invariant_of-result g c = λ number.
    let p = c.args.prepared in
    reached_timed c.calls_stay_sound.ensures.begun c.calls_send_right.ensures.begun (with_token c.args.token c.args.setup.now) number p.request p.source p.uri (numbered number c.in-Ok.state) c.in-Ok-schedule_of.schedule
    (reaches_numbered (with_token c.args.token c.args.setup.now) 0 number p.request p.source p.uri c.in-Ok.state c.in-Ok.ensures.opened) c.in-Ok-schedule_of.ensures

pub returns-clause-opened : goal.returns-clause-opened
returns-clause-opened g c = λ number.
    let p = c.args.prepared in
    reaches_numbered (with_token c.args.token c.args.setup.now) 0 number p.request p.source p.uri c.in-Ok.state c.in-Ok.ensures.opened
