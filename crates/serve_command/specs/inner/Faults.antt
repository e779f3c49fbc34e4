-- Why a proxy does not serve a configuration.
-- Here: what no public contract reaches.
use Rattle.proxy_config.specs.declared.fault.SetupFault.{SetupFault}
use Rattle.proxy_config.specs.declared.fault.SetupFault.TheVariants as read
use Rattle.serve_command.specs.declared.fault.ServeFault.{ServeFault}
use Rattle.serve_command.specs.declared.fault.ServeFault.TheVariants as fault

abbrev pub fault_read : SetupFault → ServeFault
fault_read (read.Line n) = fault.Line n
fault_read read.NoMemory = fault.NoMemory

abbrev pub IsSystemFault : ServeFault → Type 0
IsSystemFault fault.TooLong = ⊥
IsSystemFault (fault.Line n) = ⊥
IsSystemFault fault.NoMemory = Unit {0}
IsSystemFault fault.Socket = Unit {0}
