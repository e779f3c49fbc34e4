-- The lines of a history by the rows at its end.
use Rattle.std.proofs.Common.{◌≡◌, ℕ, zero, suc, ◌+◌, ◌<◌, Bool, true, false, ◌&&◌, List, [], ◌∷◌, ◌++◌, length, take, get_or, Some, None, refl, sym, ap, ◌∙◌, arith, append_assoc, append-nil}
use Rattle.std.specs.Prelude.{slice_get, codes}
use Rattle.std.specs.Fmt.{decimal}
use Rattle.fork_model.specs.Table.{Row, Table}
use Rattle.fork_model.specs.Event.{Event}
use Rattle.fork_model.specs.Step.{next}
use Rattle.fork_model.specs.Choice.{Choice}
use Rattle.fork_model.specs.Reply.{Up, Nothing, Provisional, Success, Final, Reply, IsReply}
use Rattle.fork_model.specs.History.{after, AreReplies}
use Rattle.fork_model.specs.ExactlyOne.{FinalAtTheEndAlone, RowsStay}
use Rattle.fork_model.specs.Log.{Posted, events_of}
use Rattle.fork_rank.specs.RuleLines.{ended}
use Rattle.fork_rank.specs.PreferredText.{list_text}
use Rattle.fork_program.specs.Replay.{final_text, up_text, reply_text}
use Rattle.fork_engine.specs.Run.{post_text, posts_text}

abbrev pub rows_text : List Row → List Posted → List Reply → List ℕ
rows_text rows [] replies = []
rows_text rows (post ∷ history) [] = []
rows_text rows (post ∷ history) (reply ∷ replies) = ended (post_text rows post.tag reply) ++ rows_text rows history replies

-- ---- one line more

same_reply : (a b : Reply) → Some a ≡ Some b → a ≡ b
same_reply a b e = cc

one_more : (rows : List Row) (history : List Posted) (replies : List Reply) (i : ℕ) (d : Posted) (reply : Reply) → i < length history → slice_get replies i ≡ Some reply
    → rows_text rows (take (suc i) history) replies ≡ rows_text rows (take i history) replies ++ ended (post_text rows (get_or history i d).tag reply)
one_more rows [] replies i d reply lt e = absurd (omega arith)
one_more rows (post ∷ history) [] i d reply lt e = absurd cc
one_more rows (post ∷ history) (first ∷ replies) zero d reply lt e =
    append-nil (ended (post_text rows post.tag first)) ∙ ap (λ (r : Reply). ended (post_text rows post.tag r)) (same_reply first reply e)
one_more rows (post ∷ history) (first ∷ replies) (suc i) d reply lt e =
    ap (λ (text : List ℕ). ended (post_text rows post.tag first) ++ text) (one_more rows history replies i d reply (omega arith) e)
    ∙ sym (append_assoc (ended (post_text rows post.tag first)) (rows_text rows (take i history) replies) (ended (post_text rows (get_or history i d).tag reply)))

none_more : (rows : List Row) (history : List Posted) (replies : List Reply) (i : ℕ) → i < length history → slice_get replies i ≡ None
    → rows_text rows (take (suc i) history) replies ≡ rows_text rows (take i history) replies
none_more rows [] replies i lt e = absurd (omega arith)
none_more rows (post ∷ history) [] zero lt e = refl
none_more rows (post ∷ history) [] (suc i) lt e = refl
none_more rows (post ∷ history) (first ∷ replies) zero lt e = absurd cc
none_more rows (post ∷ history) (first ∷ replies) (suc i) lt e =
    ap (λ (text : List ℕ). ended (post_text rows post.tag first) ++ text) (none_more rows history replies i (omega arith) e)

pub rows_text-more : (rows : List Row) (history : List Posted) (replies : List Reply) (i : ℕ) (d : Posted) (reply : Reply) → i < length history → slice_get replies i ≡ Some reply
    → rows_text rows (take (i + 1) history) replies ≡ rows_text rows (take i history) replies ++ ended (post_text rows (get_or history i d).tag reply)
rows_text-more rows history replies i d reply lt e =
    let n : i + 1 ≡ suc i = omega arith in
    ap (λ k. rows_text rows (take k history) replies) n ∙ one_more rows history replies i d reply lt e

pub rows_text-none : (rows : List Row) (history : List Posted) (replies : List Reply) (i : ℕ) → i < length history → slice_get replies i ≡ None
    → rows_text rows (take (i + 1) history) replies ≡ rows_text rows (take i history) replies
rows_text-none rows history replies i lt e =
    let n : i + 1 ≡ suc i = omega arith in
    ap (λ k. rows_text rows (take k history) replies) n ∙ none_more rows history replies i lt e

-- ---- the rows after an event and those at the end tell the same reply

up_stays : (new end : List Row) (up : Up) → ((choice : Choice) → up ≡ Final choice → end ≡ new) → up_text new up ≡ up_text end up
up_stays new end Nothing same = refl
up_stays new end (Provisional n) same = refl
up_stays new end (Success n) same = refl
up_stays new end (Final choice) same = ap (λ (rows : List Row). final_text rows choice) (sym (same choice refl))

first_of_three : (a b c : Bool) → (a && b && c) ≡ true → a ≡ true
first_of_three true b c e = refl
first_of_three false b c e = absurd cc

module _ (alone : FinalAtTheEndAlone) (stay : RowsStay) where
  reply_stays : (t : Table) (event : Event) (at : ℕ) (reply : Reply) (events : List Event) → IsReply t event at reply
      → reply_text (next t event at).rows reply ≡ reply_text (after (next t event at) (suc at) events).rows reply
  reply_stays t event at reply events is =
      let new : Table = next t event at in
      let same = λ (choice : Choice) (e : reply.up ≡ Final choice).
      stay new (suc at) events (first_of_three _ _ _ (alone t event at reply choice is e).0) in
      ap (λ (text : List ℕ). decimal reply.at ++ codes " start " ++ list_text reply.started ++ codes " cancel " ++ list_text reply.cancelled ++ codes " up " ++ text)
      (up_stays new.rows (after new (suc at) events).rows reply.up same)

  pub posts_are_told : (t : Table) (at : ℕ) (history : List Posted) (replies : List Reply) → AreReplies t at (events_of history) replies
      → posts_text t at history replies ≡ rows_text (after t at (events_of history)).rows history replies
  posts_are_told t at [] replies are = refl
  posts_are_told t at (post ∷ history) [] are = refl
  posts_are_told t at (post ∷ history) (reply ∷ replies) are =
      let new : Table = next t post.event at in
      let end : List Row = (after new (suc at) (events_of history)).rows in
      ap (λ (text : List ℕ). ended (decimal post.tag ++ codes ": " ++ text) ++ posts_text new (suc at) history replies) (reply_stays t post.event at reply (events_of history) are.0)
      ∙ ap (λ (text : List ℕ). ended (post_text end post.tag reply) ++ text) (posts_are_told new (suc at) history replies are.1)
