use Rattle.fork_call.specs.Opening.{with_token}
use Rattle.fork_call.proofs.OpenedCalls.{all_open, refuses_so, stopped_refused}
use Rattle.fork_call.proofs.laws.WithToken.{prepared_with, refuses_with, rejected_with}
use Rattle.fork_call.proofs.pending_call.PendingCall.new_read.Goals as goal

pub returns-in-Ok-clause-opened : goal.returns-in-Ok-clause-opened
returns-in-Ok-clause-opened g c =
    let o = c.args.opening in
    all_open (with_token c.args.token c.args.setup.now) o.request o.source c.in-Ok.prepared
    (prepared_with c.args.token c.args.setup.now o.request o.source c.in-Ok.prepared c.in-Ok.ensures.prepared) c.of.result c.of.ensures.opened

pub returns-in-Ok-clause-refused : goal.returns-in-Ok-clause-refused
returns-in-Ok-clause-refused g c =
    let o = c.args.opening in
    refuses_with c.args.token c.args.setup.now o.request o.source c.of.result
    (refuses_so c.args.setup.now o.request o.source c.in-Ok.prepared c.in-Ok.ensures.prepared c.of.result c.of.ensures.refused)

pub returns-in-Err-clause-refused : goal.returns-in-Err-clause-refused
returns-in-Err-clause-refused g c =
    let o = c.args.opening in
    rejected_with c.args.token c.args.setup.now o.request o.source c.in-Err.unrouted
    (stopped_refused c.args.setup.now o.request o.source c.in-Err.unrouted c.in-Err.ensures.refused)
