-- What holds of the parts of every call, and what its private calls make.
use Rattle.std.specs.Prelude.{◌≡◌, List, Option, length}
use Rattle.fork_model.specs.Log.{Log, table_of}
use Rattle.call_model.specs.Closing as closing
use Rattle.call_model.specs.OpenedRequest.{Destination}
use Rattle.call_model.specs.Branch.{Branch}
use Rattle.call_state.specs.declared.closing.Closing.{Closing}
use Rattle.call_state.specs.declared.closing.Closing.TheVariants as closed

-- each row of the table has its destination, and room for its part
pub record IsSized (log : Log) (destinations : List Destination) (branches : List (Option Branch)) : Type 0 where
  pub each_destination : length destinations ≡ length (table_of log).rows
  pub each_branch : length branches ≡ length (table_of log).rows

-- what closed the table, in memory
abbrev pub closing_of : {A : Type 0} → Closing A → closing.Closing
closing_of closed.NotClosed = closing.NotClosed
closing_of closed.BySuccess = closing.BySuccess
closing_of (closed.ByGlobalFailure status) = closing.ByGlobalFailure status
closing_of (closed.ByCancel reasons) = closing.ByCancel reasons
