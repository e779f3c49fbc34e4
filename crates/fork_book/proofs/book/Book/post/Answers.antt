use Rattle.fork_book.proofs.Common.{◌≡◌, ◌∙◌, ap, List, [], ◌∷◌, ◌++◌, core_next, Reply, IsReply, Posted}
use Rattle.context_values.specs.EventView.{event_of}
use Rattle.fork_book.proofs.Books.{book_posted, added_posted}
use Rattle.fork_book.proofs.book.Book.post.Given as given
use Rattle.fork_book.proofs.book.Book.post.Goals as goal

module _ (g : given.Over) (c : goal.After-push_reserved-2 g) where
  abbrev post : Posted
  post = record { tag = c.args.tag; event = event_of c.args.event }

  follows : c.take.new.self ≡ core_next c.self.inside.context post.event
  follows = c.in-Ok.ensures.next

  replied : IsReply c.self.inside.context.table post.event c.self.inside.context.taken c.in-Ok.reply
  replied = c.in-Ok.ensures.reply

  history : c.push_reserved.new.self.items ≡ c.self.inside.history.items ++ post ∷ []
  history =
      let room : c.reserve.new.self.items ++ c.new.result ∷ [] ≡ c.self.inside.history.items ++ c.new.result ∷ [] = ap (λ (xs : List Posted). xs ++ c.new.result ∷ []) c.reserve.ensures.items in
      let same : c.self.inside.history.items ++ c.new.result ∷ [] ≡ c.self.inside.history.items ++ post ∷ [] = ap (λ (x : Posted). c.self.inside.history.items ++ x ∷ []) c.new.ensures in
      c.push_reserved.ensures.items ∙ room ∙ same

  replies : c.push_reserved-2.new.self.items ≡ c.self.inside.replies.items ++ c.in-Ok.reply ∷ []
  replies =
      let room : c.reserve-else-is_err.new.self.items ++ c.in-Ok.reply ∷ [] ≡ c.self.inside.replies.items ++ c.in-Ok.reply ∷ [] =
      ap (λ (xs : List Reply). xs ++ c.in-Ok.reply ∷ []) c.reserve-else-is_err.ensures.items in
      c.push_reserved-2.ensures.items ∙ room

pub invariant_of-self-2 : goal.invariant_of-self-2
invariant_of-self-2 g c =
    book_posted c.self.inside.context c.take.new.self c.self.inside.initial c.self.inside.history.items c.self.inside.replies.items (post g c) c.in-Ok.reply
    c.self.invariant (follows g c) (replied g c) c.rows_keep_their_numbers.ensures.by_event _ _ (history g c) (replies g c)

pub returns-clause-added : goal.returns-clause-added
returns-clause-added g c =
    added_posted c.self.inside.context c.take.new.self c.self.inside.initial c.self.inside.history.items c.self.inside.replies.items (post g c) c.in-Ok.reply
    c.self.invariant (follows g c) (replied g c) c.rows_keep_their_numbers.ensures.by_event _ c.self.view_is _ _ (history g c) (replies g c)
