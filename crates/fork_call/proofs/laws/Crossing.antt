-- A thread may be given a call.
use denote.Param.Send.{IsSend, sendable}
use Rattle.std.proofs.Crossing.{crosses}
use Rattle.std.specs.declared.clone.Clone as clone
use Rattle.std.specs.contracts.alloc.Global.{the_row as heap_row}
use Rattle.std.specs.contracts.impls.GlobalAllocator.TheImpl.{ghosts}
use Rattle.call_state.proofs.laws.Crossing.{parts_send}
use Rattle.fork_call.proofs.schedule.BranchTimers.TheSendSync as schedule
use Rattle.fork_call.specs.contracts.call.Call.{the_row as call_row}

pub call_send : (h : clone.Ghosts heap_row.Denot) → IsSend (call_row heap_row ghosts h)
call_send h = search (parts_send, schedule.the_send, crosses, sendable) depth 60 fits 20000
