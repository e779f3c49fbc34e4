-- A thread may be given what stands for a branch and for the caller.
use denote.Param.Send.{IsSend, sendable}
use Rattle.std.proofs.Crossing.{crosses}
use Rattle.std.specs.contracts.alloc.Global.{the_row as heap_row}
use Rattle.std.specs.contracts.impls.GlobalAllocator.TheImpl.{ghosts}
use Rattle.call_branch.specs.contracts.opened.OpenedRequest.{the_row as fixed_row}
use Rattle.call_branch.specs.contracts.branch.Branch.{the_row as branch_row}
use Rattle.call_branch.specs.contracts.destination.Destination.{the_row as destination_row}

pub fixed_send : IsSend (fixed_row heap_row ghosts)
fixed_send = search (crosses, sendable) depth 60 fits 20000

pub branch_send : IsSend (branch_row heap_row ghosts)
branch_send = search (crosses, sendable) depth 60 fits 20000

pub destination_send : IsSend (destination_row heap_row ghosts)
destination_send = search (crosses, sendable) depth 60 fits 20000
