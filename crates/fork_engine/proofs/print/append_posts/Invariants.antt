use Rattle.std.proofs.Common.{◌≡◌, ◌++◌, take}
use Rattle.fork_engine.proofs.Posts.{rows_text}
use Rattle.fork_engine.proofs.print.append_posts.Given as goal

-- the events so far have their lines
abbrev pub invariant-loop-post : goal.invariant-loop-post
invariant-loop-post g l =
    (l.at ≡ l.post-index)
    × (l.text.items ≡ l.initial.text.items ++ rows_text l.context.table.rows (take l.post-index l.book.history) l.book.replies)
