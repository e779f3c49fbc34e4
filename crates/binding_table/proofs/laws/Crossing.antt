-- Threads may share a table of what a thread may be given and may share.
use denote.RattleType.{RattleType}
use denote.Param.Send.{Frees, IsSend, IsSync}
use Rattle.std.specs.declared.alloc.Allocator as allocator
use Rattle.binding_table.proofs.table.BindingTable.TheSendSync as made
use Rattle.binding_table.specs.contracts.table.BindingTable as table

pub table_sync : (T A : RattleType) (g : allocator.Ghosts A.Denot) → IsSend T → IsSend A → IsSync T → IsSync A → Frees g g.dealloc_token → IsSync (table.the_field T A g).row
table_sync T A g = made.the_field_sync T A g
