-- Where the rows and the stored answers of a table come from (RFC 3261 section 16.7 steps 4 to 6): an event that
-- brings contacts adds rows for some of them, and an event that ends a branch stores its answer. Nothing else does.
use Rattle.std.specs.Prelude.{◌≡◌, ◌↔◌, ◌⊎◌, ℕ, Bool, true, false, List, [], length, Some, None, slice_get}
use Rattle.std.specs.List.{AllByRecursion, list_all}
use Rattle.fork_model.specs.Table.{Kind, Rules, Offer, Challenge, StoredAnswer, State, Row, Table, stored_of}
use Rattle.fork_model.specs.Event.{FinalAnswer, Event, Ring, Answer, Timeout, Fault, TimerC, GiveUp, Cancel}
use Rattle.fork_model.specs.Step.{next}
use Rattle.fork_model.specs.Reply.{became, has_become}
use Rattle.fork_model.specs.History.{Target, table}

-- ---- rows

-- the contacts and the challenges that an event brings
abbrev pub offers_of : Event → List Offer
offers_of (Ring n status) = []
offers_of (Answer n answer) = answer.offers
offers_of (Timeout n) = []
offers_of (Fault n) = []
offers_of (TimerC n) = []
offers_of (GiveUp n) = []
offers_of Cancel = []

abbrev pub challenges_of : Event → List Challenge
challenges_of (Ring n status) = []
challenges_of (Answer n answer) = answer.challenges
challenges_of (Timeout n) = []
challenges_of (Fault n) = []
challenges_of (TimerC n) = []
challenges_of (GiveUp n) = []
challenges_of Cancel = []

-- the row of a contact: it has the contact's key, q and place
pub record IsRowOf (offers : List Offer) (row : Row) : Type 0 where
  pub offer : Offer
  pub contact : slice_get offers row.place ≡ Some offer
  pub key : offer.key ≡ Some row.key
  pub q : row.q ≡ offer.q

abbrev pub AddsNoRow : Type 0
AddsNoRow = (t : Table) (event : Event) (at : ℕ) → offers_of event ≡ [] → length (next t event at).rows ≡ length t.rows

abbrev pub NewRowsAreContacts : Type 0
NewRowsAreContacts =
    (t : Table) (event : Event) (at n : ℕ) (row : Row) → slice_get t.rows n ≡ None
    → slice_get (next t event at).rows n ≡ Some row → IsRowOf (offers_of event) row

-- ---- stored answers

abbrev pub IsOneOf : List Offer → Offer → Type 0
IsOneOf offers offer = (place : ℕ) × (slice_get offers place ≡ Some offer)

-- the answer as it came at this position: its status, its challenges, and of its contacts those that were left
pub record IsReceived (answer : FinalAnswer) (at : ℕ) (stored : StoredAnswer) : Type 0 where
  pub received : stored.received ≡ true
  pub status : stored.status ≡ answer.status
  pub arrival : stored.arrival ≡ at
  pub left : AllByRecursion (IsOneOf answer.offers) stored.left
  pub challenges : stored.challenges ≡ answer.challenges

-- an answer that did not come, with this status
pub record IsAssumed (code at : ℕ) (stored : StoredAnswer) : Type 0 where
  pub received : stored.received ≡ false
  pub status : stored.status ≡ code
  pub arrival : stored.arrival ≡ at
  pub left : stored.left ≡ []
  pub challenges : stored.challenges ≡ []

-- the event at this position stores this for row n: 408 for a timeout, 503 for a transport error (sections 16.8, 16.9)
abbrev pub IsStoredBy : Event → (at n : ℕ) → StoredAnswer → Type 0
IsStoredBy (Ring m status) at n stored = ⊥
IsStoredBy (Answer m answer) at n stored = (n ≡ m) × IsReceived answer at stored
IsStoredBy (Timeout m) at n stored = (n ≡ m) × IsAssumed 408 at stored
IsStoredBy (Fault m) at n stored = (n ≡ m) × IsAssumed 503 at stored
IsStoredBy (TimerC m) at n stored = (n ≡ m) × IsAssumed 408 at stored
IsStoredBy (GiveUp m) at n stored = ⊥
IsStoredBy Cancel at n stored = ⊥

-- row n has this stored answer
abbrev pub HasStored : Table → ℕ → StoredAnswer → Type 0
HasStored t n stored = (row : Row) × (slice_get t.rows n ≡ Some row) × (stored_of row.state ≡ Some stored)

abbrev pub EventsStoreAnswers : Type 0
EventsStoreAnswers =
    (t : Table) (event : Event) (at n : ℕ) (stored : StoredAnswer) → HasStored (next t event at) n stored
    → HasStored t n stored ⊎ IsStoredBy event at n stored

-- over a whole history: each stored answer was stored by the event that stands at its arrival
abbrev pub StoredAnswersCame : Type 0
StoredAnswersCame =
    (kind : Kind) (rules : Rules) (targets : List Target) (events : List Event) (n : ℕ) (stored : StoredAnswer)
    → HasStored (table kind rules targets events) n stored
    → (event : Event) × (slice_get events stored.arrival ≡ Some event) × IsStoredBy event stored.arrival n stored

-- every contact left passes the one test, every challenge the other
abbrev pub Passes : (Offer → Bool) → (Challenge → Bool) → StoredAnswer → Type 0
Passes p r stored = (list_all p stored.left ≡ true) × (list_all r stored.challenges ≡ true)

abbrev pub EachPasses : (Offer → Bool) → (Challenge → Bool) → Table → Type 0
EachPasses p r t = (n : ℕ) (stored : StoredAnswer) → HasStored t n stored → Passes p r stored

-- what all contacts and challenges pass that events bring is passed by all that are stored
abbrev pub StoredAnswersPass : Type 0
StoredAnswersPass =
    (p : Offer → Bool) (r : Challenge → Bool) (t : Table) (event : Event) (at : ℕ)
    → list_all p (offers_of event) ≡ true → list_all r (challenges_of event) ≡ true
    → EachPasses p r t → EachPasses p r (next t event at)

-- ---- the rows that a reply names

abbrev pub IsNumberIn : List ℕ → ℕ → Type 0
IsNumberIn numbers n = (place : ℕ) × (slice_get numbers place ≡ Some n)

-- the rows that have become such are those that pass the test now and did not before
abbrev pub BecameIsExact : Type 0
BecameIsExact =
    (test : State → Bool) (old new : List Row) (n : ℕ)
    → IsNumberIn (became test old new) n ↔ (has_become test old new n ≡ true)
