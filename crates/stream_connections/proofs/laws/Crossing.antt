-- A thread may be given what of a connection is a value, and the table of connections that it may be given.
use denote.RattleType.{RattleType}
use denote.Param.Send.{Frees, IsSend}
use Rattle.std.specs.declared.alloc.Allocator as allocator
use Rattle.stream_connections.proofs.queue.SendQueue.TheSendSync as made_queue
use Rattle.stream_connections.proofs.received.ReceivedStream.TheSendSync as made_received
use Rattle.stream_connections.proofs.table.ConnectionTable.TheSendSync as made_table
use Rattle.stream_connections.specs.contracts.queue.SendQueue as queue
use Rattle.stream_connections.specs.contracts.received.ReceivedStream as received
use Rattle.stream_connections.specs.contracts.table.ConnectionTable as table

pub queue_send : (A : RattleType) (g : allocator.Ghosts A.Denot) → IsSend A → Frees g g.dealloc_token → IsSend (queue.the_row A g)
queue_send A g = made_queue.the_send A g

pub received_send : (A : RattleType) (g : allocator.Ghosts A.Denot) → IsSend A → Frees g g.dealloc_token → IsSend (received.the_row A g)
received_send A g = made_received.the_send A g

pub table_send : (C A : RattleType) (g : allocator.Ghosts A.Denot) → IsSend C → IsSend A → Frees g g.dealloc_token → IsSend (table.the_row C A g)
table_send C A g = made_table.the_send C A g
