-- Why a proxy does not serve a configuration.
use Rattle.std.specs.Prelude.{◌<◌, ◌≤◌, ℕ, List, length}
use Rattle.proxy_config.specs.Configuration.{IsConfiguration, IsMalformedAt}
use Rattle.proxy_config.specs.Setup.{Setup}
use Rattle.serve_command.specs.declared.fault.ServeFault.{ServeFault}
use Rattle.serve_command.specs.declared.fault.ServeFault.TheVariants as fault

-- a configuration has at most so many bytes
abbrev pub most_text : ℕ
most_text = 1048576

abbrev pub exit_status : ServeFault → ℕ
exit_status fault.TooLong = 1
exit_status (fault.Line n) = 1
exit_status fault.NoMemory = 3
exit_status fault.Socket = 5

abbrev pub Spells : List ℕ → Type 0
Spells text = (setup : Setup) × IsConfiguration text setup

-- what each fault says of the text: it is too long; it is not, and this is its first malformed line; it spells a setup
abbrev pub IsFaultOf : List ℕ → ServeFault → Type 0
IsFaultOf text fault.TooLong = most_text < length text
IsFaultOf text (fault.Line n) = (length text ≤ most_text) × IsMalformedAt text n
IsFaultOf text fault.NoMemory = length text ≤ most_text
IsFaultOf text fault.Socket = (length text ≤ most_text) × Spells text
