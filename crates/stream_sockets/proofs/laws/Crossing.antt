-- Threads may share the connections of a proxy.
use denote.Struct.Declared.{shape}
use denote.Param.Send.{IsSend, IsSync, recorded_sync, sendable, struct_sync}
use Rattle.std.proofs.Crossing.{crosses, frees, send}
use Rattle.std.proofs.alloc.Global.TheSendSync as heap
use Rattle.std.specs.contracts.alloc.Global.{the_row as heap_row}
use Rattle.std.specs.contracts.impls.GlobalAllocator.TheImpl.{ghosts}
use Rattle.std.specs.contracts.sync.Arc.{the_row as arc_row}
use Rattle.mio.proofs.net.stream.TcpStream.TheSendSync as stream
use Rattle.mio.proofs.poll.Registry.TheSendSync as registry
use Rattle.mio.proofs.waker.Waker.TheSendSync as waker
use Rattle.sip_uri.proofs.hop.Hop.TheSendSync as hop
use Rattle.stream_connections.proofs.laws.Crossing as values
use Rattle.stream_connections.specs.contracts.queue.SendQueue.{the_row as queue_row}
use Rattle.stream_connections.specs.contracts.received.ReceivedStream.{the_row as received_row}
use Rattle.stream_connections.specs.contracts.table.ConnectionTable.{the_row as table_row}
use Rattle.stream_sockets.proofs.limits.StreamLimits.TheSendSync as limits
use Rattle.stream_sockets.specs.contracts.connection.Connection as connection
use Rattle.stream_sockets.specs.contracts.line.Line as line
use Rattle.stream_sockets.specs.contracts.streams.Streams as streams

queue_sent : IsSend (queue_row heap_row ghosts)
queue_sent = values.queue_send heap_row ghosts send frees

received_sent : IsSend (received_row heap_row ghosts)
received_sent = values.received_send heap_row ghosts send frees

line_sent : IsSend line.the_row
line_sent = search (crosses, sendable, queue_sent, stream.the_send) depth 60 fits 20000

connection_sent : IsSend connection.the_row
connection_sent = search (crosses, sendable, hop.the_send, line_sent, received_sent) depth 60 fits 20000

connection_shared : IsSync connection.the_row
connection_shared = recorded_sync connection.the_field.row _ _ (connection.the_type).to_one (struct_sync (shape connection.the_type)
    (hop.the_field_sync, (search (crosses, line_sent), (search (crosses, received_sent), tt))))

table_sent : IsSend (table_row (arc_row connection.the_row heap_row ghosts) heap_row ghosts)
table_sent = values.table_send (arc_row connection.the_row heap_row ghosts) heap_row ghosts (search (crosses, connection_sent, connection_shared)) send frees

pub streams_sync : IsSync streams.the_row
streams_sync = recorded_sync streams.the_field.row _ _ (streams.the_type).to_one (struct_sync (shape streams.the_type) (
  heap.the_field_sync,
  (limits.the_field_sync, (registry.the_field_sync, (waker.the_field_sync, (search (crosses, table_sent), tt)))),
))
