-- A thread may be given what workers post to, in any memory whose blocks any thread may give back.
use denote.Param.Send.{IsSend, Frees, sendable}
use denote.RattleType.{RattleType}
use Rattle.std.proofs.Crossing.{crosses}
use Rattle.std.specs.declared.alloc.Allocator.{Ghosts}
use Rattle.std.specs.declared.clone.Clone as clone
use Rattle.std.specs.contracts.vec.Vec.{the_row as vec_row}
use Rattle.std.proofs.vec.Vec.TheSendSync.{the_send as vec_send}
use Rattle.fork_tree.proofs.node.Level.TheLaws.TheKnot as knot
use Rattle.fork_tree.specs.contracts.tree.ForkTree.{the_row as tree_row}
use Rattle.fork_book.specs.contracts.book.Book.{the_row as book_row}
use Rattle.fork_engine.specs.contracts.opened_book.OpenedBook.{the_row as held_row}

module _ (A : RattleType) (g : Ghosts A.Denot) (h : clone.Ghosts A.Denot) (s : IsSend A) (f : Frees g g.dealloc_token) where
  vecs : (T : RattleType) → IsSend T → IsSend (vec_row T A g)
  vecs T t = vec_send T A g t s f

  -- a branch reaches itself by the groups below it
  tree_send : IsSend (tree_row A g)
  tree_send = search (vecs, knot.crosses, crosses, sendable) depth 60 fits 20000

  book_send : IsSend (book_row A g h)
  book_send = search (vecs, tree_send, crosses, sendable) depth 60 fits 20000

  pub held_send : IsSend (held_row A h g)
  held_send = search (vecs, book_send, crosses, sendable) depth 60 fits 20000
