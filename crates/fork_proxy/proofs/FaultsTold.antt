-- A fault of a text that was read whole is told as one.
use Rattle.std.proofs.Common.{ℕ, List, Option, refl}
use Rattle.fork_engine.specs.Asked.{IsWhole}
use Rattle.serve_command.specs.Faults.{IsFaultOf}
use Rattle.serve_command.specs.declared.fault.ServeFault.{ServeFault}
use Rattle.serve_command.specs.declared.fault.ServeFault.TheVariants as served
use Rattle.fork_proxy.specs.Ending.{IsServeFailure, told}

pub is_told : (input : Option (List ℕ)) (text : List ℕ) (why : ServeFault) → IsWhole input text → IsFaultOf text why → IsServeFailure input (told text why)
is_told input text served.TooLong whole of_text = (text, served.TooLong, whole, of_text, refl)
is_told input text (served.Line number) whole of_text = (text, served.Line number, whole, of_text, refl)
is_told input text served.NoMemory whole of_text = (text, served.NoMemory, whole, of_text, refl)
is_told input text served.Socket whole of_text = (text, served.Socket, whole, of_text, refl)
