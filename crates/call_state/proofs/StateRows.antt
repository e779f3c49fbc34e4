use Rattle.call_state.proofs.Common.{◌≡◌, refl, Option, Some, None, Row, State, Idle, Trying, Rung, Ended, stored_of, stored_at, was_received}
use Rattle.std.specs.Prelude.{option_map}
use Rattle.fork_model.specs.Table.{Stored, Taken, Silent, Never, Accepted, End, stored_end}
use Rattle.fork_tree.specs.States.{shown, shown_end}
use Rattle.call_state.specs.inner.StatesShown.{is_received_end, shows_received, state_shown}

received_end : (e : End) → is_received_end (shown_end e) ≡ was_received (stored_end e)
received_end (Stored answer) = refl
received_end (Taken arrival) = refl
received_end (Silent arrival) = refl
received_end Never = refl
received_end (Accepted arrival) = refl

received_is : (s : State) → shows_received (Some (shown s)) ≡ was_received (stored_of s)
received_is Idle = refl
received_is Trying = refl
received_is (Rung cancelled) = refl
received_is (Ended end) = received_end end

pub received_shown : (row : Option Row) → shows_received (option_map state_shown row) ≡ was_received (stored_at row)
received_shown None = refl
received_shown (Some row) = received_is row.state
