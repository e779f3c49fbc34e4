-- Threads may share what a proxy is set up with, and be given it.
use denote.RattleType.{RattleType}
use denote.Param.Send.{Frees, IsSend, IsSync}
use Rattle.std.specs.declared.alloc.Allocator as allocator
use Rattle.proxy_config.proofs.setup.Setup.TheSendSync as made
use Rattle.proxy_config.specs.contracts.setup.Setup as setup

pub setup_sync : (A : RattleType) (g : allocator.Ghosts A.Denot) → IsSync A → IsSync (setup.the_row A g)
setup_sync A g = made.the_sync A g

pub setup_send : (A : RattleType) (g : allocator.Ghosts A.Denot) → IsSend A → Frees g g.dealloc_token → IsSend (setup.the_row A g)
setup_send A g = made.the_send A g
