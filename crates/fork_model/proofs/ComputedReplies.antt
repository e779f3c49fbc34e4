-- Each event has a reply, and this computes it.
use Rattle.fork_model.proofs.Common.{◌≡◌, ℕ, suc, Bool, List, [], ◌∷◌, Option, Some, None, if◌then◌else◌, Table, is_trying, is_cancelled, Event, next, Up, Nothing, Provisional, Success, Final, Reply, IsUp, IsReply, became, provisional, success}
use Rattle.fork_model.proofs.Common.{finishes, AreReplies, arith}
use Rattle.fork_model.proofs.FirstStored.{choice_of, choice_of_is}

abbrev pub up_by : Option ℕ → Option ℕ → Bool → Table → Up
up_by (Some n) success finishes new = Provisional n
up_by None (Some n) finishes new = Success n
up_by None None finishes new = if finishes then Final (choice_of new.rules new.rows) else Nothing

abbrev pub reply_to : Table → Event → ℕ → Reply
reply_to t event at = record {
  at = at;
  started = became is_trying t.rows (next t event at).rows;
  cancelled = became is_cancelled t.rows (next t event at).rows;
  up = up_by (provisional t event) (success t event) (finishes t (next t event at)) (next t event at);
}

up_by_is : (t : Table) (event : Event) (new : Table) (p s : Option ℕ) (f : Bool) → provisional t event ≡ p → success t event ≡ s → finishes t new ≡ f
    → IsUp t event new (up_by p s f new)
up_by_is t event new p s f pe se fe = grind (arith, choice_of_is)

pub reply_to_is : (t : Table) (event : Event) (at : ℕ) → IsReply t event at (reply_to t event at)
reply_to_is t event at = grind (arith, up_by_is)

abbrev pub replies_to : Table → ℕ → List Event → List Reply
replies_to t at [] = []
replies_to t at (event ∷ events) = reply_to t event at ∷ replies_to (next t event at) (suc at) events

pub replies_to_are : (t : Table) (at : ℕ) (events : List Event) → AreReplies t at events (replies_to t at events)
replies_to_are t at [] = tt
replies_to_are t at (event ∷ events) = (reply_to_is t event at, replies_to_are (next t event at) (suc at) events)
