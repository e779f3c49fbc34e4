use Rattle.std.proofs.Common.{[]}
use Rattle.sip_text.proofs.SpelledLines.{behind_one, none_behind}
use Rattle.sip_text.proofs.written.lines_end.Goals as goal

pub loop-rest-preserved : goal.loop-rest-preserved
loop-rest-preserved c =
    let behind = behind_one c.args.text.now c.args.at c.loop-rest.end c.args.lines.now _ c.in_ok-end.end c.loop-rest.rest.now (record { name = record { start = 0; len = 0 }; value = record { start = 0; len = 0 } })
    c.in-len1-up.len_at_least c.loop-rest.invariant.ordered c.loop-rest.invariant.within c.in_ok-end.ensures.end c.in_ok-end.ensures.written c.loop-rest.invariant.spelled c.loop-rest.invariant.written in
    record { ordered = behind.ordered; end_within = behind.end_within; within = behind.within; spelled = behind.spelled; written = behind.written }

pub returns-in_err-end-clause-none : goal.returns-in_err-end-clause-none
returns-in_err-end-clause-none c =
    rw c.from_residual.ensures
    (none_behind c.args.text.now c.args.at c.loop-rest.end c.args.lines.now [] c.loop-rest.rest.now (record { name = record { start = 0; len = 0 }; value = record { start = 0; len = 0 } })
    c.in-len1-up.len_at_least c.in_err-end.ensures.none c.loop-rest.invariant.written)
