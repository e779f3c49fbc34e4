use Rattle.fork_tests.proofs.Samples.{six_rows}
use Rattle.fork_tests.proofs.rows.ended_rows.Goals as goal

pub returns : goal.returns
returns c =
    six_rows _ _ _ _ _ _ _ _ _ c.row.ensures c.row-2.ensures c.row-3.ensures c.row-4.ensures c.row-5.ensures c.row-6.ensures
