-- What reading a configuration gives, want of memory aside.
use Rattle.std.specs.Prelude.{◌≡◌, ℕ, List, Result, Ok, Err}
use Rattle.proxy_config.specs.declared.fault.SetupFault.{SetupFault}
use Rattle.proxy_config.specs.declared.fault.SetupFault.TheVariants as fault
use Rattle.proxy_config.specs.Setup.{Setup}
use Rattle.proxy_config.specs.Configuration.{IsMalformedAt}

abbrev pub GivesSetup : Result Setup ℕ → Result Setup SetupFault → Type 0
GivesSetup expected (Ok setup) = expected ≡ Ok setup
GivesSetup expected (Err (fault.Line number)) = expected ≡ Err number
GivesSetup expected (Err fault.NoMemory) = Unit {0}

-- the fault names the first malformed line, or is want of memory
abbrev pub IsFaultOf : List ℕ → SetupFault → Type 0
IsFaultOf text (fault.Line number) = IsMalformedAt text number
IsFaultOf text fault.NoMemory = Unit {0}
