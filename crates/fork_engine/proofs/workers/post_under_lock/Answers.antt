use denote.Param.Send.{sendable}
use Rattle.std.proofs.Crossing.{crosses}
use Rattle.fork_engine.proofs.Crossing.{held_send}
use Rattle.fork_engine.proofs.workers.post_under_lock.Goals as goal

pub post_scripts-requires-sync-P : goal.post_scripts-requires-sync-P
post_scripts-requires-sync-P g c κs within =
    let held = held_send _ _ g.A.Clone c.type_bounds.send-A c.type_bounds.frees-A-Allocator in search (held, crosses, sendable)
