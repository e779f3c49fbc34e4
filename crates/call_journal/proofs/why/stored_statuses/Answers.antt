use Rattle.std.proofs.Common.{◌∙◌, List, ap, arith, rules}
use Rattle.std.proofs.lemmas.List.{take_all}
use Rattle.std.specs.List.{filter_map}
use Rattle.fork_model.specs.Table.{Row}
use Rattle.call_journal.specs.Why.{stored_status}
use Rattle.call_journal.proofs.StoredRows.{one_more}
use Rattle.call_journal.proofs.why.stored_statuses.Goals as goal

pub loop-n-preserved : goal.loop-n-preserved
loop-n-preserved g c =
    let more = one_more stored_status c.args.context.now.table.rows c.loop-n.n (omega arith) in
    search (rules, more)

pub returns : goal.returns
returns g c =
    c.loop-n.invariant
    ∙ ap (λ (rows : List Row). filter_map stored_status rows) (take_all c.loop-n.n c.args.context.now.table.rows (omega arith))
