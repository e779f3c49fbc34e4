-- A thread may be given the parts of a call.
use denote.Param.Send.{IsSend, sendable}
use Rattle.std.proofs.Crossing.{crosses}
use Rattle.std.proofs.option.Option.TheSendSync as option
use Rattle.std.specs.declared.clone.Clone as clone
use Rattle.std.specs.contracts.alloc.Global.{the_row as heap_row}
use Rattle.std.specs.contracts.impls.GlobalAllocator.TheImpl.{ghosts}
use Rattle.fork_book.proofs.laws.Crossing.{book_send}
use Rattle.call_branch.proofs.laws.Crossing.{fixed_send, branch_send, destination_send}
use Rattle.call_caller.proofs.laws.Crossing.{served_send}
use Rattle.call_caller.proofs.laws.Crossing.{queue_send}
use Rattle.call_state.specs.contracts.state.CallState.{the_row as parts_row}

pub parts_send : (h : clone.Ghosts heap_row.Denot) → IsSend (parts_row heap_row ghosts h)
parts_send h = search (book_send, fixed_send, destination_send, branch_send, served_send, queue_send, option.the_send, crosses, sendable) depth 60 fits 20000
