use Rattle.fork_call.proofs.Common.{◌∙◌}
use Rattle.fork_call.proofs.OpenedCalls.{openable, prepared_if, refuses_if, turned_back}
use Rattle.fork_call.proofs.laws.Readable.{admitted_reads}
use Rattle.fork_call.proofs.opening.prepare_read.Goals as goal

pub with_target-requires-clause-request : goal.with_target-requires-clause-request
with_target-requires-clause-request g c =
    openable c.in-Ok.request.start c.args.opening.request.start c.in-Ok.ensures.start c.requires.openable

pub with_target-requires-clause-readable : goal.with_target-requires-clause-readable
with_target-requires-clause-readable g c =
    admitted_reads c.args.setup.now c.args.opening.request c.in-Ok.request c.args.opening.source c.in-Ok.ensures.admitted c.in-Ok.ensures.start

pub returns-in-Ok-clause-prepared : goal.returns-in-Ok-clause-prepared
returns-in-Ok-clause-prepared g c =
    prepared_if c.args.setup.now c.args.opening.request c.args.opening.source c.in-Ok.request c.in-Ok.ensures.admitted c.with_target.result c.with_target.ensures.target

pub returns-in-Ok-clause-refused : goal.returns-in-Ok-clause-refused
returns-in-Ok-clause-refused g c =
    refuses_if c.args.setup.now c.args.opening.request c.args.opening.source c.in-Ok.request c.in-Ok.ensures.admitted c.with_target.result c.with_target.ensures.refused

pub returns-in-Err-clause-refused : goal.returns-in-Err-clause-refused
returns-in-Err-clause-refused g c =
    turned_back c.args.setup.now c.args.opening.request c.args.opening.source c.in-Err.why c.in-Err.ensures.refused

pub with_target-requires-clause-caller : goal.with_target-requires-clause-caller
with_target-requires-clause-caller g c =
    c.reply_hop.ensures
    ∙ c.what_was_read_tells_the_reply.ensures.prepared c.args.setup.now c.args.opening.request c.in-Ok.request c.args.opening.source c.args.top.now c.requires.top c.in-Ok.ensures.admitted.prepared
