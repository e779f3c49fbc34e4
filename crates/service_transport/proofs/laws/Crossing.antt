-- Threads may share the transport of a service, and its sockets.
use denote.Struct.Declared.{shape}
use denote.Param.Send.{IsSend, IsSync, sendable, struct_sync}
use Rattle.std.proofs.Crossing.{crosses, frees, send}
use Rattle.std.proofs.alloc.Global.TheSendSync as heap
use Rattle.std.proofs.option.Option.TheSendSync as option
use Rattle.std.specs.contracts.alloc.Global.{the_row as heap_row}
use Rattle.std.specs.contracts.impls.GlobalAllocator.TheImpl.{ghosts}
use Rattle.call_table.proofs.laws.Crossing.{epoch_sync}
use Rattle.proxy_service.proofs.laws.Crossing.{service_sync}
use Rattle.proxy_threads.proofs.laws.Crossing as group
use Rattle.proxy_threads.proofs.packet.Packet.TheSendSync as packet
use Rattle.proxy_threads.proofs.room.WaitingRoom.TheSendSync as room
use Rattle.proxy_threads.specs.contracts.group.CallGroup.{the_row as group_row}
use Rattle.proxy_threads.specs.contracts.groups.CallGroups as groups
use Rattle.proxy_threads.specs.contracts.packet.Packet.{the_row as packet_row}
use Rattle.service_admission.proofs.laws.Crossing as source
use Rattle.service_admission.specs.contracts.limits.SourceLimits.{the_row as source_row}
use Rattle.service_config.proofs.net.Net.TheSendSync as net
use Rattle.service_transport.proofs.idle.IdleWorkers.TheSendSync as idle
use Rattle.service_transport.specs.contracts.listening.ProxySockets as sockets
use Rattle.service_transport.specs.contracts.receiving.Receiving as receiving
use Rattle.service_transport.specs.contracts.transport.ServiceTransport as transport
use Rattle.sip_uri.proofs.hop.Hop.TheSendSync as hop
use Rattle.sockets.proofs.laws.Crossing as parts
use Rattle.stream_sockets.proofs.laws.Crossing.{streams_sync}

source_send : IsSend (source_row heap_row ghosts)
source_send = source.limits_send heap_row ghosts send frees

group_send : IsSend (group_row packet_row heap_row ghosts)
group_send = group.group_send packet_row heap_row ghosts packet.the_send send frees

groups_sync : IsSync groups.the_field.row
groups_sync = struct_sync (shape groups.the_type)
    (search (crosses, group_send), (search (crosses, group_send), (search (crosses, room.the_send), tt)))

receiving_sync : IsSync receiving.the_field.row
receiving_sync = struct_sync (shape receiving.the_type) (
  heap.the_field_sync,
  (
    search (crosses, sendable, option.the_field_sync),
    (
      search (crosses, option.the_send, source_send),
      (
        search (crosses, sendable, net.the_sync),
        (idle.the_field_sync, (groups_sync, tt)),
      ),
    ),
  ),
)

pub transport_sync : IsSync transport.the_field.row
transport_sync = struct_sync (shape transport.the_type)
    (heap.the_field_sync, (search service_sync, (hop.the_field_sync, (epoch_sync, (receiving_sync, tt)))))

pub sockets_sync : IsSync sockets.the_field.row
sockets_sync = struct_sync (shape sockets.the_type) (parts.socket_sync, (search (crosses, sendable, option.the_field_sync, streams_sync), tt))
