-- An event that is posted, adds no row to the table and is no response (RFC 3261 sections 16.8 to 16.10).
use Rattle.std.specs.Prelude.{[], None}
use Rattle.fork_model.specs.Event.{Event}
use Rattle.fork_model.specs.Reply.{Reply}
use Rattle.call_model.specs.Call.{Call}
use Rattle.call_model.specs.Posting.{Posts}

abbrev pub PostsBare : Call → Event → Call → Type 0
PostsBare call event new = (reply : Reply) × Posts call event [] None reply new
