-- What reading a configuration gives, want of memory aside.
use Rattle.std.specs.Prelude.{◌≡◌, ℕ, Bool, List, Result, Ok, Err}
use Rattle.proxy_config.specs.declared.fault.SetupFault.{SetupFault}
use Rattle.proxy_config.specs.declared.fault.SetupFault.TheVariants as fault
use Rattle.service_config.specs.Configuration.{IsMalformedAt}
use Rattle.service_config.specs.Settings.{Settings}

abbrev pub GivesSettings : Result Settings ℕ → Result Settings SetupFault → Type 0
GivesSettings expected (Ok settings) = expected ≡ Ok settings
GivesSettings expected (Err (fault.Line number)) = expected ≡ Err number
GivesSettings expected (Err fault.NoMemory) = Unit {0}

-- the fault names the first malformed line, or is want of memory
abbrev pub IsFaultOf : ℕ → (streams : Bool) → List ℕ → SetupFault → Type 0
IsFaultOf number streams text (fault.Line n) = IsMalformedAt number streams text n
IsFaultOf number streams text fault.NoMemory = Unit {0}
