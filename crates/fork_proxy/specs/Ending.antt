-- What a served text is, and how the program ends.
use Rattle.std.specs.Prelude.{◌≡◌, ℕ, List, Option, Result, Ok, Err}
use Rattle.fork_program.specs.Program.{IsReadFault}
use Rattle.fork_program.specs.FaultView as answer
use Rattle.fork_engine.specs.Asked.{IsWhole}
use Rattle.serve_command.specs.Faults.{Spells, IsFaultOf}
use Rattle.serve_command.specs.Faults as serve
use Rattle.serve_command.specs.declared.fault.ServeFault.{ServeFault}
use Rattle.serve_command.specs.declared.fault.ServeFault.TheVariants as served
use Rattle.proxy_config.specs.Form.{form_at}
use Rattle.fork_proxy.specs.declared.Failure.{Failure}
use Rattle.fork_proxy.specs.declared.Failure.TheVariants as failure

-- the input's text spells a setup, and the status is 0
abbrev pub Serves : Option (List ℕ) → ℕ → Type 0
Serves input status = (status ≡ 0) × (text : List ℕ) × IsWhole input text × Spells text

-- a fault of a text, as it is told: of a malformed line with what it should be
abbrev pub told : List ℕ → ServeFault → Failure
told text (served.Line number) = failure.Malformed (record { number = number; form = form_at text number })
told text why = failure.Serve why

-- the input could not be read, or its text has a fault, which is told
abbrev pub IsServeFailure : Option (List ℕ) → Failure → Type 0
IsServeFailure input (failure.Answer fault) = IsReadFault fault
IsServeFailure input failed = (text : List ℕ) × (why : ServeFault) × IsWhole input text × IsFaultOf text why × (failed ≡ told text why)

-- the status to end with; a malformed line has that of its fault
abbrev pub exit_status : Failure → ℕ
exit_status (failure.Answer fault) = answer.exit_status fault
exit_status (failure.Serve fault) = serve.exit_status fault
exit_status (failure.Malformed line) = serve.exit_status (served.Line line.number)

-- the status of a run, or that of what it failed by
abbrev pub status_of : Result ℕ Failure → ℕ
status_of (Ok status) = status
status_of (Err failed) = exit_status failed
