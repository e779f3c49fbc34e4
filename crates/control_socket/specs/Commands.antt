-- What a line at the control socket says.
use Rattle.std.specs.Prelude.{◌≡◌, ◌↔◌, ◌++◌, ◌⊎◌, ◌-◌, ◌^◌, ℕ, Option, Some, None, List, [], codes}
use Rattle.sip_lex.specs.Cut.{cut, is}
use Rattle.sip_lex.specs.Number.{plain_number_within}
use Rattle.control_socket.specs.declared.command.ControlCommand.{ControlCommand}
use Rattle.control_socket.specs.declared.command.ControlCommand.TheVariants.{Stop, Reload, Stats, Calls, Call, Bindings, BindingsOf, Forget, Refused, Metrics}

-- a number within this limit stands behind this text
abbrev pub IsNumbered : List ℕ → ℕ → List ℕ → ℕ → Type 0
IsNumbered front limit line number = (digits : List ℕ) × (line ≡ front ++ digits) × (plain_number_within limit digits ≡ Some number)

-- to end within so many seconds, a day at most
abbrev pub IsStop : List ℕ → ℕ → Type 0
IsStop line seconds = IsNumbered (codes "stop ") 86400 line seconds

-- the calls that are open, from this number on
abbrev pub IsCallsFrom : List ℕ → ℕ → Type 0
IsCallsFrom line from = IsNumbered (codes "calls ") (2 ^ 64 - 1) line from

-- all from 0 on where no number is said
abbrev pub IsCalls : List ℕ → ℕ → Type 0
IsCalls line from = ((line ≡ codes "calls") × (from ≡ 0)) ⊎ IsCallsFrom line from

-- the call of this number
abbrev pub IsCall : List ℕ → ℕ → Type 0
IsCall line number = IsNumbered (codes "call ") (2 ^ 64 - 1) line number

-- a text stands behind this word, with the space behind it
abbrev pub IsNamed : (word : List ℕ) → List ℕ → Type 0
IsNamed word line = (name : List ℕ) × (line ≡ word ++ name)

abbrev pub or_empty : Option (List ℕ) → List ℕ
or_empty (Some text) = text
or_empty None = []

-- what stands behind the first space
abbrev pub argument_of : List ℕ → List ℕ
argument_of line = or_empty (cut (is 32) line).1

-- a GET of HTTP
abbrev pub IsGet : List ℕ → Type 0
IsGet line = (rest : List ℕ) × (line ≡ codes "GET " ++ rest)

-- the line says this command, and no other
pub record Says (line : List ℕ) (command : ControlCommand) : Type 0 where
  pub reload : (command ≡ Reload) ↔ (line ≡ codes "reload")
  pub stats : (command ≡ Stats) ↔ (line ≡ codes "stats")
  pub bindings : (command ≡ Bindings) ↔ (line ≡ codes "bindings")
  pub bindings_of : (command ≡ BindingsOf) ↔ IsNamed (codes "bindings ") line
  pub forget : (command ≡ Forget) ↔ IsNamed (codes "forget ") line
  pub refused : (command ≡ Refused) ↔ (line ≡ codes "refused")
  pub get : (command ≡ Metrics) ↔ IsGet line
  pub stop : (seconds : ℕ) → (command ≡ Stop seconds) ↔ IsStop line seconds
  pub calls : (from : ℕ) → (command ≡ Calls from) ↔ IsCalls line from
  pub call : (number : ℕ) → (command ≡ Call number) ↔ IsCall line number
