-- The contacts that a stored 3xx leaves to the caller (RFC 3261 section 16.7 step 4).
use Rattle.std.specs.Prelude.{◌&&◌, nat_lt, List, Option, Some, None, if◌then◌else◌}
use Rattle.std.specs.Option.{option_and_then}
use Rattle.fork_model.specs.Table.{Offer, StoredAnswer, Row, stored_of}

-- a stored answer is no 2xx, so below 400 it is a 3xx
abbrev pub left_of_answer : StoredAnswer → Option (List Offer)
left_of_answer answer = if answer.received && nat_lt answer.status 400 then Some answer.left else None

abbrev pub left_of : Row → Option (List Offer)
left_of row = option_and_then left_of_answer (stored_of row.state)
