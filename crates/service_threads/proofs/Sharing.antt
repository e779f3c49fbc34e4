-- Threads may share a server, and its sockets.
use denote.Struct.Declared.{shape}
use denote.Param.Send.{IsSync, recorded_sync, struct_sync}
use Rattle.service_threads.proofs.opening.Listeners.TheSendSync as listeners
use Rattle.service_threads.proofs.proxy.Paths.TheSendSync as paths
use Rattle.service_writers.proofs.journal.JournalWriter.TheSendSync as journal
use Rattle.service_writers.proofs.warnings.WarningWriter.TheSendSync as warnings
use Rattle.service_threads.specs.contracts.proxy.ServiceProxy as proxy
use Rattle.service_threads.specs.contracts.serving.Server as server
use Rattle.service_transport.proofs.laws.Crossing as below
use Rattle.service_transport.specs.contracts.listening.ProxySockets as sockets

proxy_sync : IsSync proxy.the_field.row
proxy_sync = struct_sync (shape proxy.the_type)
    (below.transport_sync, (journal.the_field_sync, (warnings.the_field_sync, (paths.the_field_sync, tt))))

pub server_sync : IsSync server.the_row
server_sync = recorded_sync server.the_field.row _ _ (server.the_type).to_one (struct_sync (shape server.the_type)
    (proxy_sync, (listeners.the_field_sync, tt)))

pub sockets_sync : IsSync sockets.the_row
sockets_sync = recorded_sync sockets.the_field.row _ _ (sockets.the_type).to_one below.sockets_sync
