-- An inbox is a queue of jobs with one end that gives and one that receives: what was given, in order, is what was received
-- and then what the queue holds.
use Rattle.std.specs.Prelude.{◌≡◌, ℕ, Bool, true, false, List, [], ◌++◌}
use mathlib.Core.Option.{some}
use lib.ListN.{get_elem?}
use Rattle.atomic_table.specs.declared.badge.Badge.{Badge}
use Rattle.atomic_table.specs.Seated.{TableId}
use Rattle.crossbeam_channel.specs.declared.flavors.array.Key.{Key}
use Rattle.call_table.specs.declared.inbox.Known.{Known}

module _ {J : Type 0} where
  -- a pass that may give and may receive, or not, and what it knows of what was given and received
  abbrev pub known : Bool → Bool → List J → List J → Known J
  known gives receives given received = record { gives = gives; receives = receives; given = given; received = received }

  -- the pass at this place: one that may give is the giver's and knows all that was given, one that may receive is the
  -- receiver's and knows all that was received
  pub record KnowsAll (giver receiver : ℕ) (given received : List J) (at : ℕ) (pass : Known J) : Type 0 where
    pub gives : pass.gives ≡ true → (at ≡ giver) × (pass.given ≡ given)
    pub receives : pass.receives ≡ true → (at ≡ receiver) × (pass.received ≡ received)

  -- the rule of the queue: it holds what was given and not yet received, in order
  pub record IsInOrder (held : List J) (passes : List (Known J)) : Type 0 where
    pub giver : ℕ
    pub receiver : ℕ
    pub given : List J
    pub received : List J
    pub order : given ≡ received ++ held
    pub known : (at : ℕ) (pass : Known J) → get_elem? passes at ≡ some pass → KnowsAll giver receiver given received at pass

-- which queue an end is of
pub record QueueId (J : Type 0) : Type 0 where
  pub table : TableId
  pub key : Badge (Key J)

-- the giving end: its queue, and what was given to it, in order
pub record Giving (J : Type 0) : Type 0 where
  pub queue : QueueId J
  pub given : List J

-- the receiving end: its queue, what was received from it, in order, whether the giving end was joined to it, and what was
-- given where it was
pub record Receiving (J : Type 0) : Type 0 where
  pub queue : QueueId J
  pub received : List J
  pub joined : Bool
  pub given : List J

-- the two ends of one queue, to which nothing was given
pub record AreNewEnds {J : Type 0} (i : Giving J) (o : Receiving J) : Type 0 where
  pub queue : i.queue ≡ o.queue
  pub given : i.given ≡ []
  pub received : o.received ≡ []
  pub joined : o.joined ≡ false
