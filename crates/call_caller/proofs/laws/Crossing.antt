-- A thread may be given what stands for a branch and for the caller.
use denote.Param.Send.{IsSend, sendable}
use Rattle.std.proofs.Crossing.{crosses}
use Rattle.call_caller.specs.contracts.served.ServerTransaction.{the_row as served_row}
use Rattle.std.specs.contracts.alloc.Global.{the_row as heap_row}
use Rattle.std.specs.contracts.impls.GlobalAllocator.TheImpl.{ghosts}
use Rattle.call_caller.specs.contracts.queue.ResponseQueue.{the_row as queue_row}

pub served_send : IsSend served_row
served_send = search (crosses, sendable) depth 60 fits 20000

pub queue_send : IsSend (queue_row heap_row ghosts)
queue_send = search (crosses, sendable) depth 60 fits 20000
