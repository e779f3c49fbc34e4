-- Threads may share a shelf of what a thread may be given.
use denote.RattleType.{RattleType}
use denote.Param.Send.{Frees, IsSend, IsSync}
use Rattle.std.specs.declared.alloc.Allocator as allocator
use Rattle.call_table.proofs.shelf.Shelf.TheSendSync as made
use Rattle.call_table.specs.contracts.shelf.Shelf as shelf
use Rattle.call_table.proofs.clock.Epoch.TheSendSync as made_epoch
use Rattle.call_table.proofs.schedule.Schedule.TheSendSync as made_schedule
use Rattle.call_table.specs.contracts.clock.Epoch as epoch
use Rattle.call_table.specs.contracts.schedule.Schedule as schedule

pub shelf_sync : (T A : RattleType) (g : allocator.Ghosts A.Denot) → IsSend T → IsSend A → IsSync A → Frees g g.dealloc_token → IsSync (shelf.the_field T A g).row
shelf_sync T A g = made.the_field_sync T A g

pub epoch_sync : IsSync epoch.the_field.row
epoch_sync = made_epoch.the_field_sync

pub schedule_sync : (A : RattleType) (g : allocator.Ghosts A.Denot) → IsSend A → Frees g g.dealloc_token → IsSync (schedule.the_field A g).row
schedule_sync A g = made_schedule.the_field_sync A g
