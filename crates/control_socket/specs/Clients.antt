-- What is to be done for a client of the control socket.
use Rattle.std.specs.Prelude.{◌≡◌, ◌-◌, ℕ, Bool, true, false, List, [], ◌∷◌, Option, Some, None, if◌then◌else◌, IsSome, nat_le, option_map}
use Rattle.control_socket.specs.declared.client.ClientTurn.{ClientTurn}
use Rattle.control_socket.specs.declared.client.ClientTurn.TheVariants.{Read, Obey, Write, Wait, Close}
use Rattle.control_socket.specs.Requests.{RequestState, IsAsked, MayGoOn}

-- what it has written, what is left of its answer, and the moment at which its time is over; one that waits for the end has none
pub record ClientState : Type 0 where
  pub request : RequestState
  pub answer : Option (List ℕ)
  pub deadline : Option ℕ

abbrev pub is_over : Option ℕ → ℕ → Bool
is_over (Some deadline) now = nat_le deadline now
is_over None now = false

-- one whose answer is written waits for the end, or is read until it has closed its side, so that the answer is not lost by what it
-- has written behind its line
abbrev pub turn_behind_answer : Option ℕ → (closed : Bool) → ClientTurn
turn_behind_answer None closed = Wait
turn_behind_answer (Some deadline) true = Close
turn_behind_answer (Some deadline) false = Read

-- one that is answered, where its time is not over
abbrev pub turn_of_answered : List ℕ → ClientState → ClientTurn
turn_of_answered (b ∷ bs) client = Write
turn_of_answered [] client = turn_behind_answer client.deadline client.request.closed

-- one that is not answered
abbrev pub IsTurnOfRequest : RequestState → (late : Bool) → ClientTurn → Type 0
IsTurnOfRequest request late Read = MayGoOn request late
IsTurnOfRequest request late (Obey command) = IsAsked request late command
IsTurnOfRequest request late _ = ⊥

abbrev pub IsTurnBy : Option (List ℕ) → ClientState → (late : Bool) → ClientTurn → Type 0
IsTurnBy None client late turn = IsTurnOfRequest client.request late turn
IsTurnBy (Some left) client late turn = turn ≡ (if late then Close else turn_of_answered left client)

-- this is to be done for a client at this moment
abbrev pub IsTurn : ClientState → (now : ℕ) → ClientTurn → Type 0
IsTurn client now turn = IsTurnBy client.answer client (is_over client.deadline now) turn

-- what is left to be written, nothing without an answer
abbrev pub left_of : Option (List ℕ) → List ℕ
left_of (Some left) = left
left_of None = []

-- what it writes is read on
abbrev pub IsReadBy : Option (List ℕ) → ClientState → Type 0
IsReadBy None client = MayGoOn client.request false
IsReadBy (Some left) client = (left ≡ []) × (client.request.closed ≡ false) × IsSome client.deadline

abbrev pub IsRead : ClientState → Type 0
IsRead client = IsReadBy client.answer client

-- for how long there is nothing to be done but what this turn waits for
abbrev pub rest_of : ClientTurn → ClientState → (now : ℕ) → Option ℕ
rest_of (Obey command) client now = Some 0
rest_of Close client now = Some 0
rest_of _ client now = option_map (λ deadline. deadline - now) client.deadline
