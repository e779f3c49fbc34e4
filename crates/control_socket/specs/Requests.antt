-- What a client of the control socket has written.
use Rattle.std.specs.Prelude.{◌≡◌, ◌==◌, ◌&&◌, ◌||◌, ◌++◌, ◌-◌, ◌≤◌, ℕ, Bool, true, false, List, [], ◌∷◌, Option, Some, None, if◌then◌else◌, bytes_eq, drop, length, nat_le, nat_lt, position, take}
use Rattle.control_socket.specs.declared.command.ControlCommand.{ControlCommand}
use Rattle.control_socket.specs.declared.command.ControlCommand.TheVariants.{Unknown}
use Rattle.control_socket.specs.Commands.{Says, argument_of}

-- the front of what was written, and whether its sender has closed its side
pub record RequestState : Type 0 where
  pub written : List ℕ
  pub closed : Bool

-- a line has 256 bytes at most; as much is kept as such a line may have with its line feed
abbrev pub fed : RequestState → List ℕ → RequestState
fed request bytes = record { written = take 257 (request.written ++ bytes); closed = request.closed }

abbrev pub without_return : List ℕ → List ℕ
without_return line = if bytes_eq (drop (length line - 1) line) (13 ∷ []) then take (length line - 1) line else line

-- where the first line feed stands
abbrev pub line_feed_of : List ℕ → Option ℕ
line_feed_of written = position (λ b. b == 10) written

-- the line in front of a line feed; and where none was written, all that was, once its sender has closed its side
abbrev pub line_at : Option ℕ → RequestState → Option (List ℕ)
line_at (Some place) request = Some (without_return (take place request.written))
line_at None request = if request.closed && nat_le (length request.written) 256 then Some request.written else None

-- the line that was written, if it is whole
abbrev pub line_of : RequestState → Option (List ℕ)
line_of request = line_at (line_feed_of request.written) request

-- what stands behind the word of the line, if it is whole
abbrev pub argument_in : Option (List ℕ) → List ℕ
argument_in (Some line) = argument_of line
argument_in None = []

-- a line that is not whole when its time is over, or is longer than it may be, says nothing that is known
abbrev pub IsSaid : Option (List ℕ) → RequestState → (late : Bool) → ControlCommand → Type 0
IsSaid (Some line) request late command = Says line command
IsSaid None request late command = (late || nat_lt 256 (length request.written) ≡ true) × (command ≡ Unknown)

-- this is asked
abbrev pub IsAsked : RequestState → (late : Bool) → ControlCommand → Type 0
IsAsked request late command = IsSaid (line_of request) request late command

-- more of the line may come
abbrev pub MayGoOn : RequestState → (late : Bool) → Type 0
MayGoOn request late = (line_of request ≡ None) × (late ≡ false) × (length request.written ≤ 256)
