-- When a connection is to be closed.
use Rattle.std.specs.Prelude.{ℕ, ◌-◌, max, Option, Some, None, nat_lt, if◌then◌else◌}
use Rattle.std.specs.Option.{option_or}
use Rattle.stream_connections.specs.declared.lifetime.ClosingCause.{ClosingCause}
use Rattle.stream_connections.specs.declared.lifetime.ClosingCause.TheVariants.{Unreachable, Slow, Unfinished, Idle}
use Rattle.stream_connections.specs.declared.lifetime.ReceivedTimes.{ReceivedTimes}
use Rattle.stream_connections.specs.declared.lifetime.SentTimes.{SentTimes}
use Rattle.stream_connections.specs.declared.lifetime.SendingState.{SendingState}
use Rattle.stream_connections.specs.declared.lifetime.SendingState.TheVariants.{Connecting, Waiting, Resting}

-- where more than so many milliseconds have passed
abbrev pub overdue : ℕ → ℕ → ℕ → ClosingCause → Option ClosingCause
overdue since longest now cause = if nat_lt longest (now - since) then Some cause else None

-- 64 times T1 for a connection to open (RFC 3261 section 17.1.1.1), 5 seconds for a peer to take something of what waits
abbrev pub state_cause : SendingState → ℕ → ℕ → Option ClosingCause
state_cause Connecting moved now = overdue moved 32000 now Unreachable
state_cause Waiting moved now = overdue moved 5000 now Slow
state_cause Resting moved now = None

abbrev pub sending_cause : SentTimes → ℕ → Option ClosingCause
sending_cause sent now = state_cause sent.state sent.moved now

-- 64 times T1 for a message to come whole
abbrev pub unfinished_cause : Option ℕ → ℕ → Option ClosingCause
unfinished_cause None now = None
unfinished_cause (Some since) now = overdue since 32000 now Unfinished

abbrev pub receiving_cause : ReceivedTimes → ℕ → Option ClosingCause
receiving_cause received now = unfinished_cause received.unfinished now

abbrev pub closing_cause : ReceivedTimes → SentTimes → ℕ → ℕ → Option ClosingCause
closing_cause received sent longest now =
    option_or (sending_cause sent now) (option_or (receiving_cause received now) (overdue (max received.heard sent.moved) longest now Idle))
