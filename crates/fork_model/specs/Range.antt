-- What may be in a target, a contact and an answer: a q is at most one, and a final response has a status below 700
-- (RFC 3261 sections 20.10 and 7.2).
use Rattle.std.specs.Prelude.{◌<◌, ◌≤◌, ℕ}
use Rattle.std.specs.List.{AllByRecursion}
use Rattle.fork_model.specs.Table.{Offer}
use Rattle.fork_model.specs.Event.{FinalAnswer, Event, Ring, Answer, Timeout, Fault, TimerC, GiveUp, Cancel}
use Rattle.fork_model.specs.History.{Target}

-- q is in thousandths
abbrev pub most_q : ℕ
most_q = 1000

abbrev pub IsTargetInRange : Target → Type 0
IsTargetInRange target = target.q ≤ most_q

abbrev pub IsOfferInRange : Offer → Type 0
IsOfferInRange offer = offer.q ≤ most_q

pub record IsAnswerInRange (answer : FinalAnswer) : Type 0 where
  pub status : answer.status < 700
  pub offers : AllByRecursion IsOfferInRange answer.offers

abbrev pub IsEventInRange : Event → Type 0
IsEventInRange (Ring n status) = Unit {0}
IsEventInRange (Answer n answer) = IsAnswerInRange answer
IsEventInRange (Timeout n) = Unit {0}
IsEventInRange (Fault n) = Unit {0}
IsEventInRange (TimerC n) = Unit {0}
IsEventInRange (GiveUp n) = Unit {0}
IsEventInRange Cancel = Unit {0}
