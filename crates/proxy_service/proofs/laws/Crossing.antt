-- Threads may share a service.
use denote.Struct.Declared.{shape}
use denote.Param.Send.{IsSend, IsSync, sendable, struct_sync}
use Rattle.std.proofs.Crossing.{crosses, frees, send, sync}
use Rattle.std.proofs.alloc.Global.TheSendSync as heap
use Rattle.std.proofs.sync.RwLock.TheSendSync as lock
use Rattle.std.specs.declared.clone.Clone as clone
use Rattle.std.specs.contracts.alloc.Global.{the_row as heap_row}
use Rattle.std.specs.contracts.impls.GlobalAllocator.TheImpl.{ghosts}
use Rattle.call_table.proofs.laws.Crossing.{schedule_sync, shelf_sync}
use Rattle.call_table.specs.contracts.shelf.Shelf as shelf
use Rattle.fork_call.proofs.laws.Crossing.{call_send}
use Rattle.fork_call.specs.contracts.call.Call.{the_row as call_row}
use Rattle.metrics.proofs.laws.Crossing.{counts_sync}
use Rattle.proxy_service.proofs.notes.NoteTables.TheSendSync as notes
use Rattle.proxy_service.proofs.terms.RunSettings.TheSendSync as terms
use Rattle.proxy_service.specs.contracts.admission.ServiceAdmission as admission
use Rattle.proxy_service.specs.contracts.calls.ServiceCalls as calls
use Rattle.proxy_service.specs.contracts.service.Service as service
use Rattle.proxy_service.specs.contracts.settings.CurrentSettings as settings
use Rattle.proxy_threads.proofs.refusals.Refusals.TheSendSync as refusals
use Rattle.proxy_threads.proofs.walk.CallWalk.TheSendSync as walk
use Rattle.service_admission.proofs.laws.Crossing.{quota_sync}
use Rattle.service_admission.proofs.lifetime.Lifetime.TheSendSync as lifetime
use Rattle.service_files.proofs.laws.Crossing as configuration
use Rattle.service_files.proofs.queue.JournalQueue.TheSendSync as queue
use Rattle.service_files.specs.contracts.setup.Configuration.{the_row as configuration_row}
use Rattle.service_users.proofs.laws.Crossing.{users_sync}

shelf_shared : (h : clone.Ghosts heap_row.Denot) → IsSync (shelf.the_field (call_row heap_row ghosts h) heap_row ghosts).row
shelf_shared h = shelf_sync (call_row heap_row ghosts h) heap_row ghosts (call_send h) send sync frees

configuration_shared : IsSync (configuration_row heap_row ghosts)
configuration_shared = configuration.configuration_sync heap_row ghosts sync

configuration_sent : IsSend (configuration_row heap_row ghosts)
configuration_sent = configuration.configuration_send heap_row ghosts send frees

settings_sync : IsSync (settings.the_field heap_row ghosts).row
settings_sync = struct_sync (shape (settings.the_type heap_row ghosts)) (search (lock.the_field_sync, configuration_shared, configuration_sent), (terms.the_field_sync, tt))

admission_sync : IsSync admission.the_field.row
admission_sync = struct_sync (shape admission.the_type) (quota_sync, (lifetime.the_field_sync, tt))

calls_sync : (h : clone.Ghosts heap_row.Denot) → IsSync (calls.the_field heap_row ghosts h).row
calls_sync h = struct_sync (shape (calls.the_type heap_row ghosts h)) (
  sync,
  (
    heap.the_field_sync,
    (
      shelf_shared h,
      (
        schedule_sync heap_row ghosts send frees,
        (refusals.the_field_sync, (search (crosses, walk.the_send), (notes.the_field_sync, (search (crosses, sendable), tt)))),
      ),
    ),
  ),
)

pub service_sync : (h : clone.Ghosts heap_row.Denot) → IsSync (service.the_field heap_row ghosts h).row
service_sync h = struct_sync (shape (service.the_type heap_row ghosts h)) (
  sync,
  (
    heap.the_field_sync,
    (settings_sync, (admission_sync, (users_sync, (calls_sync h, (queue.the_field_sync, (counts_sync, tt)))))),
  ),
)
