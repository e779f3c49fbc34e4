-- What an operator is told of a call that is kept: words with one space between them.
use Rattle.std.specs.Prelude.{ℕ, true, false, List, ◌++◌, codes, length, Option, Some, None, slice_get, slice_index}
use Rattle.std.specs.Fmt.{decimal}
use Rattle.std.specs.List.{flat_map, range_with_len}
use Rattle.std.specs.Option.{option_map}
use Rattle.fork_model.specs.Table.{Row}
use Rattle.fork_tree.specs.declared.row.State.{State}
use Rattle.fork_tree.specs.declared.row.State.TheVariants as state
use Rattle.fork_tree.specs.declared.row.End.{End}
use Rattle.fork_tree.specs.declared.row.End.TheVariants as end
use Rattle.fork_tree.specs.States as states
use Rattle.call_journal.specs.declared.shown.CallShown.{CallShown}
use Rattle.call_journal.specs.declared.shown.BranchTimes.{BranchTimes}
use Rattle.call_journal.specs.Head as head
use Rattle.call_journal.specs.Why.{target_at}

abbrev pub known_text : Option ℕ → List ℕ
known_text (Some n) = decimal n
known_text None = codes "-"

abbrev pub dotted : ℕ → List ℕ
dotted n = codes "." ++ decimal n

abbrev pub address_text : List ℕ → List ℕ
address_text a = decimal (slice_index a 0) ++ (dotted (slice_index a 1) ++ (dotted (slice_index a 2) ++ dotted (slice_index a 3)))

-- how a branch ended: with a stored answer, by its status; with a 3xx all of whose contacts were taken; cancelled and given up; never called;
-- with a 2xx
abbrev pub end_text : End → List ℕ
end_text (end.Stored status arrival received) = decimal status
end_text (end.Taken arrival) = codes "redirected"
end_text (end.Silent arrival) = codes "silent"
end_text end.Never = codes "unused"
end_text (end.Accepted arrival) = codes "answered"

-- it waits for its group; its request was sent, and nothing came; it has rung, and is cancelled or not; it has ended
abbrev pub state_text : State → List ℕ
state_text state.Idle = codes "waiting"
state_text state.Trying = codes "calling"
state_text (state.Rung false) = codes "proceeding"
state_text (state.Rung true) = codes "cancelled"
state_text (state.Ended e) = end_text e

abbrev pub state_shown : Option Row → State
state_shown (Some row) = states.shown row.state
state_shown None = state.Idle

abbrev pub state_in : List Row → ℕ → State
state_in rows n = state_shown (slice_get rows n)

abbrev pub row_text : List Row → ℕ → List ℕ
row_text rows n = codes " " ++ state_text (state_in rows n)

-- each, by number
abbrev pub states_text : List Row → List ℕ
states_text rows = flat_map (row_text rows) (range_with_len 0 (length rows))

abbrev pub number_text : CallShown → List ℕ
number_text c = decimal c.number ++ (codes " " ++ known_text c.age)

abbrev pub place_text : List ℕ → ℕ → List ℕ
place_text address port = codes " " ++ (address_text address ++ (codes ":" ++ decimal port))

abbrev pub asked_text : CallShown → List ℕ
asked_text c = codes " " ++ (head.shown c.method.now ++ (codes " " ++ head.shown c.user.now))

abbrev pub call_text : CallShown → List ℕ
call_text c = number_text c ++ (place_text c.address c.port ++ asked_text c)

abbrev pub call_line : CallShown → List Row → List ℕ
call_line c rows = call_text c ++ (states_text rows ++ codes "\n")

abbrev pub times_text : BranchTimes → List ℕ
times_text times = codes " since " ++ (known_text times.since ++ (codes " left " ++ known_text times.left))

abbrev pub key_in : List Row → ℕ → List ℕ
key_in rows n = target_at rows n

abbrev pub standing_text : List Row → ℕ → List ℕ
standing_text rows n = codes "target " ++ (decimal n ++ row_text rows n)

abbrev pub uri_text : List ℕ → List ℕ
uri_text key = codes " sip:" ++ (head.shown key ++ codes "\n")

abbrev pub branch_line : List Row → ℕ → BranchTimes → List ℕ
branch_line rows n times = standing_text rows n ++ (times_text times ++ uri_text (key_in rows n))
