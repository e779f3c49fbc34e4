-- Threads may share what a service knows of its users.
use denote.Struct.Declared.{shape}
use denote.Param.Send.{IsSync, sendable, struct_sync}
use Rattle.std.proofs.Crossing.{crosses, frees, send, sync}
use Rattle.std.proofs.alloc.Global.TheSendSync as heap
use Rattle.std.specs.contracts.alloc.Global.{the_row as heap_row}
use Rattle.std.specs.contracts.impls.GlobalAllocator.TheImpl.{ghosts}
use Rattle.binding_table.proofs.laws.Crossing.{table_sync}
use Rattle.bindings.proofs.user_bindings.UserBindings.TheSendSync as bindings
use Rattle.bindings.specs.contracts.user_bindings.UserBindings.{the_row as bindings_row}
use Rattle.service_files.proofs.queue.JournalQueue.TheSendSync as queue
use Rattle.service_users.proofs.keeping.ChangeQueue.TheSendSync as changes
use Rattle.service_users.proofs.last_refused.LastRefused.TheSendSync as last_refused
use Rattle.service_users.specs.contracts.registry.Registry as registry
use Rattle.service_users.specs.contracts.users.ServiceUsers as users

registry_sync : IsSync (registry.the_field heap_row ghosts).row
registry_sync = struct_sync (shape (registry.the_type heap_row ghosts)) (
  table_sync (bindings_row heap_row ghosts) heap_row ghosts (bindings.the_send heap_row ghosts send frees) send (bindings.the_sync heap_row ghosts sync) sync frees,
  (search (crosses, sendable), (search (crosses, sendable), (search (crosses, sendable), (search (crosses, sendable), tt)))),
)

pub users_sync : IsSync (users.the_field heap_row ghosts).row
users_sync = struct_sync (shape (users.the_type heap_row ghosts)) (
  heap.the_field_sync,
  (registry_sync, (search (changes.the_field_sync, send, sync, frees), (search (crosses, sendable), (last_refused.the_field_sync, (queue.the_field_sync, tt))))),
)
