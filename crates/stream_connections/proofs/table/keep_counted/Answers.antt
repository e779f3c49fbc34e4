use Rattle.stream_connections.proofs.Tables.{back_again}
use Rattle.stream_connections.proofs.table.keep_counted.Goals as goal

pub returns-in-Err-keep-clause-uncounted : goal.returns-in-Err-keep-clause-uncounted
returns-in-Err-keep-clause-uncounted g c =
    back_again c.args.sources.now c.count_opened.new.sources c.count_closed.new.sources c.args.entry.opener c.args.entry.source c.in_default.ensures.counted c.count_closed.ensures
