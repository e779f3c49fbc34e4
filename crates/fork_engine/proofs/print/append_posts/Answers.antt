use Rattle.std.proofs.Common.{◌≡◌, ◌∙◌, ◌<◌, ◌≤◌, ◌+◌, ℕ, List, ◌++◌, length, take, get_or, Some, None, ap, sym, arith, append_assoc}
use Rattle.std.specs.Prelude.{slice_get}
use Rattle.std.specs.Option.{option_copied}
use Rattle.std.proofs.lemmas.List.{take_all}
use Rattle.fork_model.specs.Table.{Row}
use Rattle.fork_model.specs.Core.{Core}
use Rattle.fork_model.specs.Reply.{Reply}
use Rattle.fork_model.specs.History.{after}
use Rattle.fork_model.specs.Log.{Posted, events_of}
use Rattle.fork_rank.specs.RuleLines.{ended}
use Rattle.fork_engine.specs.Run.{post_text}
use Rattle.fork_engine.proofs.Posts.{rows_text, rows_text-more, rows_text-none, posts_are_told}
use Rattle.fork_engine.proofs.print.append_posts.Goals as goal
use Rattle.fork_engine.proofs.print.append_posts.Goals.{in-Some+in_ok-append_post, in_default}

pub loop-post-preserved : goal.loop-post-preserved
loop-post-preserved g c =
    let rows : List Row = c.context-context.result.now.table.rows in
    let history : List Posted = c.args.book.now.history in
    let replies : List Reply = c.args.book.now.replies in
    let i : ℕ = c.loop-post.post-index in
    let items : c.history-post-items.result.now ≡ history = c.history-post-items.ensures in
    let lt : i < length history = omega (arith, ap length items) in
    let at : c.loop-post.at + 1 ≡ i + 1 = ap (λ n. n + 1) c.loop-post.invariant.0 in
    let here : option_copied c.reply.result ≡ slice_get replies i = c.reply.ensures.found ∙ ap (slice_get replies) c.loop-post.invariant.0 in
    elim c.match-reply.branch [
      | in-Some+in_ok-append_post w ↦
          let found : slice_get replies i ≡ Some w.in-Some.reply.now = sym here ∙ ap option_copied w.in-Some.is in
          let more = rows_text-more rows history replies i c.post-item.result w.in-Some.reply.now lt found in
          let tag : w.tag.result ≡ (get_or history i c.post-item.result).tag =
          w.tag.ensures ∙ ap (λ (p : Posted). p.tag) (c.post-item.is ∙ ap (λ (h : List Posted). get_or h i c.post-item.result) items) in
          let line : c.match-reply.text.items ≡ c.loop-post.text.items ++ ended (post_text rows w.tag.result w.in-Some.reply.now) =
          cc (w.text-is, w.in_ok-append_post.ensures) in (
            at,
            line
                ∙ ap (λ n. c.loop-post.text.items ++ ended (post_text rows n w.in-Some.reply.now)) tag
                ∙ ap (λ (text : List ℕ). text ++ ended (post_text rows (get_or history i c.post-item.result).tag w.in-Some.reply.now)) c.loop-post.invariant.1
                ∙ append_assoc c.args.text.now.items (rows_text rows (take i history) replies) (ended (post_text rows (get_or history i c.post-item.result).tag w.in-Some.reply.now))
                ∙ ap (λ (text : List ℕ). c.args.text.now.items ++ text) (sym more),
          )
      | in_default w ↦
          let none : slice_get replies i ≡ None = sym here ∙ ap option_copied w.in_default.is in
          let more = rows_text-none rows history replies i lt none in
          let same : c.match-reply.text.items ≡ c.loop-post.text.items = cc (w.text-is) in
          (at, same ∙ c.loop-post.invariant.1 ∙ ap (λ (text : List ℕ). c.args.text.now.items ++ text) (sym more))
    ]

pub returns : goal.returns
returns g c =
    let history : List Posted = c.args.book.now.history in
    let replies : List Reply = c.args.book.now.replies in
    let items : c.history-post-items.result.now ≡ history = c.history-post-items.ensures in
    let here : List Row = c.context-context.result.now.table.rows in
    let end : List Row = (after c.args.book.now.opening 0 (events_of history)).rows in
    let stands : here ≡ end = ap (λ (core : Core). core.table.rows) c.context-context.ensures.stands in
    let long : length history ≤ c.loop-post.post-index = omega (arith, ap length items) in
    let whole : take c.loop-post.post-index history ≡ history = take_all c.loop-post.post-index history long in
    let told = posts_are_told c.final_at_the_end.ensures.alone c.finished_stays.ensures.rows_stay c.args.book.now.opening 0 history replies c.context-context.ensures.log.answered in
    c.loop-post.invariant.1
    ∙ ap (λ (posts : List Posted). c.args.text.now.items ++ rows_text here posts replies) whole
    ∙ ap (λ (rows : List Row). c.args.text.now.items ++ rows_text rows history replies) stands
    ∙ ap (λ (text : List ℕ). c.args.text.now.items ++ text) (sym told)
