-- Where the contacts and the challenges that a context shows come from: from answers that it took (RFC 3261 section 16.7
-- steps 4 and 7).
use Rattle.std.specs.Prelude.{◌≡◌, ◌≤◌, ◌<◌, ◌⊎◌, ◌++◌, ℕ, List, Some, slice_get}
use Rattle.std.specs.List.{AllByRecursion}
use Rattle.fork_model.specs.Table.{Offer, Challenge}
use Rattle.fork_model.specs.Event.{FinalAnswer, Event, Answer}
use Rattle.fork_model.specs.Core.{Core, opening_core}
use Rattle.fork_model.specs.ExactlyOne.{taken_of}
use Rattle.fork_model.specs.Sources.{IsOneOf}
use Rattle.fork_context.specs.Led.{IsLedTo}

-- of the events that led to a context, those that it took
abbrev pub taken_events : (core : Core) → IsLedTo core → List Event
taken_events core led = taken_of (opening_core led.kind led.rules led.targets) led.events

-- one of these events is a 3xx of branch n, and each of these contacts is one of its own
pub record CameByRedirection (events : List Event) (n : ℕ) (left : List Offer) : Type 0 where
  pub place : ℕ
  pub answer : FinalAnswer
  pub came : slice_get events place ≡ Some (Answer n answer)
  pub redirects : (300 ≤ answer.status) × (answer.status < 400)
  pub contacts : AllByRecursion (IsOneOf answer.offers) left

-- one of these events is a 401 or a 407 of some branch, and this challenge is one of its own
pub record CameByChallenge (events : List Event) (challenge : Challenge) : Type 0 where
  pub place : ℕ
  pub n : ℕ
  pub answer : FinalAnswer
  pub came : slice_get events place ≡ Some (Answer n answer)
  pub asks : (answer.status ≡ 401) ⊎ (answer.status ≡ 407)
  pub one : (k : ℕ) × (slice_get answer.challenges k ≡ Some challenge)

-- what was appended came by these events
abbrev pub AppendsChallenges : List Event → (old new : List Challenge) → Type 0
AppendsChallenges events old new =
    (added : List Challenge) × (new ≡ old ++ added) × AllByRecursion (CameByChallenge events) added
