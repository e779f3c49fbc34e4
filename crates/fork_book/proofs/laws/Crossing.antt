-- A thread may be given a book.
use denote.Param.Send.{IsSend, sendable}
use Rattle.std.proofs.Crossing.{crosses}
use Rattle.std.specs.declared.clone.Clone as clone
use Rattle.std.specs.contracts.alloc.Global.{the_row as heap_row}
use Rattle.std.specs.contracts.impls.GlobalAllocator.TheImpl.{ghosts}
use Rattle.fork_tree.proofs.laws.Crossing.{tree_send}
use Rattle.fork_book.specs.contracts.book.Book.{the_row as book_row}

pub book_send : (h : clone.Ghosts heap_row.Denot) → IsSend (book_row heap_row ghosts h)
book_send h = search (crosses, tree_send, sendable) depth 60 fits 20000
