-- Threads may share what a service goes by, and be given it.
use denote.RattleType.{RattleType}
use denote.Param.Send.{Frees, IsSend, IsSync}
use Rattle.std.specs.declared.alloc.Allocator as allocator
use Rattle.service_files.proofs.setup.Configuration.TheSendSync as made
use Rattle.service_files.specs.contracts.setup.Configuration as configuration

pub configuration_sync : (A : RattleType) (g : allocator.Ghosts A.Denot) → IsSync A → IsSync (configuration.the_row A g)
configuration_sync A g = made.the_sync A g

pub configuration_send : (A : RattleType) (g : allocator.Ghosts A.Denot) → IsSend A → Frees g g.dealloc_token → IsSend (configuration.the_row A g)
configuration_send A g = made.the_send A g
