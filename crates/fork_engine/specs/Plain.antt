-- Scripts in which each target is answered once, and what the choice then is, in whatever order the answers come
-- (RFC 3261 section 16.7 step 6).
use Rattle.std.specs.Prelude.{◌≡◌, ◌≢◌, ℕ, ◌+◌, ◌<◌, ◌≤◌, ◌==◌, ◌&&◌, ◌⊎◌, nat_lt, Bool, true, false, All, List, [], ◌∷◌, ◌++◌, length, if◌then◌else◌}
use Rattle.std.specs.List.{list_any}
use Rattle.fork_model.specs.Table.{Kind, Rules, is_finished, is_succeeded}
use Rattle.fork_model.specs.Event.{Event, Ring, Answer, Timeout, Fault, TimerC, GiveUp, Cancel}
use Rattle.fork_model.specs.Rank.{class_of, part_of}
use Rattle.fork_model.specs.Choice.{Choice, Best, Only503, NoAnswer408, IsChoice}
use Rattle.fork_model.specs.History.{Target, table}
use Rattle.fork_model.specs.Log.{Posted, Log, events_of, table_of}
use Rattle.fork_engine.specs.Interleaving.{IsInterleaving}

abbrev pub all_of : List (List Event) → List Event
all_of [] = []
all_of (script ∷ scripts) = script ++ all_of scripts

-- all targets are tried at once
abbrev pub HaveOneQ : List Target → Type 0
HaveOneQ targets = (q : ℕ) × All (λ target. target.q ≡ q) targets

-- a final answer that is no 2xx, without contacts
abbrev pub IsPlainAnswer : Event → Type 0
IsPlainAnswer (Ring n status) = ⊥
IsPlainAnswer (Answer n answer) = (300 ≤ answer.status) × (answer.status ≤ 699) × (answer.offers ≡ [])
IsPlainAnswer (Timeout n) = ⊥
IsPlainAnswer (Fault n) = ⊥
IsPlainAnswer (TimerC n) = ⊥
IsPlainAnswer (GiveUp n) = ⊥
IsPlainAnswer Cancel = ⊥

-- an answer of row n whose status passes the test
abbrev pub is_answer : (ℕ → Bool) → ℕ → Event → Bool
is_answer test n (Ring m status) = false
is_answer test n (Answer m answer) = m == n && test answer.status
is_answer test n (Timeout m) = false
is_answer test n (Fault m) = false
is_answer test n (TimerC m) = false
is_answer test n (GiveUp m) = false
is_answer test n Cancel = false

abbrev pub count_of : (Event → Bool) → List Event → ℕ
count_of test [] = 0
count_of test (event ∷ events) = (if test event then 1 else 0) + count_of test events

-- how many of the events are answers of row n
abbrev pub answers_of : ℕ → List Event → ℕ
answers_of n events = count_of (is_answer (λ status. true) n) events

-- row n is answered with this status
abbrev pub IsAnswered : List Event → ℕ → ℕ → Type 0
IsAnswered events n status = list_any (is_answer (λ other. other == status) n) events ≡ true

-- one plain answer for each of so many targets, and nothing else
pub record ArePlain (targets : ℕ) (events : List Event) : Type 0 where
  pub plain : All IsPlainAnswer events
  pub once : (n : ℕ) → answers_of n events ≡ (if nat_lt n targets then 1 else 0)

-- the class and preference of one status go before those of another, or are the same
abbrev pub GoesFirst : Rules → ℕ → ℕ → Type 0
GoesFirst rules a b = (class_of a < class_of b) ⊎ ((class_of a ≡ class_of b) × (part_of rules a < part_of rules b))

abbrev pub AreEqual : Rules → ℕ → ℕ → Type 0
AreEqual rules a b = (class_of a ≡ class_of b) × (part_of rules a ≡ part_of rules b)

-- no answer of the events has a class and preference that go before those of this status
abbrev pub IsNotBefore : Rules → ℕ → Event → Type 0
IsNotBefore rules status (Ring m other) = Unit {0}
IsNotBefore rules status (Answer m answer) = GoesFirst rules status answer.status ⊎ AreEqual rules status answer.status
IsNotBefore rules status (Timeout m) = Unit {0}
IsNotBefore rules status (Fault m) = Unit {0}
IsNotBefore rules status (TimerC m) = Unit {0}
IsNotBefore rules status (GiveUp m) = Unit {0}
IsNotBefore rules status Cancel = Unit {0}

-- row n is answered with this status, and its class and preference are the least among all answers of the events
pub record IsLeast (rules : Rules) (events : List Event) (n : ℕ) (status : ℕ) : Type 0 where
  pub answered : IsAnswered events n status
  pub least : All (IsNotBefore rules status) events

-- what is chosen is such an answer
abbrev pub ChoosesLeast : Rules → List Event → Choice → Type 0
ChoosesLeast rules events (Best n) = (status : ℕ) × IsLeast rules events n status
ChoosesLeast rules events (Only503 n) = (status : ℕ) × IsLeast rules events n status
ChoosesLeast rules events NoAnswer408 = ⊥

-- the targets are tried at once, and each is answered once
pub record PlainScripts (targets : List Target) (scripts : List (List Event)) : Type 0 where
  pub some : targets ≢ []
  pub one_q : HaveOneQ targets
  pub plain : ArePlain (length targets) (all_of scripts)

-- every branch ends, and none with a 2xx
abbrev pub PlainScriptsEnd : Type 0
PlainScriptsEnd =
    (kind : Kind) (rules : Rules) (targets : List Target) (scripts : List (List Event)) (history : List Posted)
    → PlainScripts targets scripts
    → IsInterleaving scripts history
    → (is_finished (table kind rules targets (events_of history)).rows ≡ true)
    × (is_succeeded (table kind rules targets (events_of history)).rows ≡ false)

-- in whatever order: the class and preference of the answer chosen are the least among all answers of the scripts
abbrev pub LeastIsChosen : Type 0
LeastIsChosen =
    (kind : Kind) (rules : Rules) (targets : List Target) (scripts : List (List Event)) (history : List Posted) (choice : Choice)
    → PlainScripts targets scripts
    → IsInterleaving scripts history
    → IsChoice rules (table kind rules targets (events_of history)).rows choice
    → ChoosesLeast rules (all_of scripts) choice

-- so no order changes the class and preference of the answer chosen
abbrev pub LeastAreEqual : Type 0
LeastAreEqual =
    (rules : Rules) (events : List Event) (m n a b : ℕ)
    → IsLeast rules events m a
    → IsLeast rules events n b
    → AreEqual rules a b

-- each answer but that of row n has a class and preference behind this status
abbrev pub IsBehind : Rules → ℕ → ℕ → Event → Type 0
IsBehind rules n status (Ring m other) = Unit {0}
IsBehind rules n status (Answer m answer) = (m ≡ n) ⊎ GoesFirst rules status answer.status
IsBehind rules n status (Timeout m) = Unit {0}
IsBehind rules n status (Fault m) = Unit {0}
IsBehind rules n status (TimerC m) = Unit {0}
IsBehind rules n status (GiveUp m) = Unit {0}
IsBehind rules n status Cancel = Unit {0}

-- and where one answer alone has the least, it is the one chosen
abbrev pub OneAloneIsChosen : Type 0
OneAloneIsChosen =
    (rules : Rules) (events : List Event) (m n a b : ℕ)
    → IsLeast rules events m a
    → IsAnswered events n b
    → All (IsBehind rules n b) events
    → m ≡ n

-- a log of plain scripts: every branch has ended, and the least of all answers is chosen
abbrev pub EndsWithLeast : Rules → List Target → List (List Event) → Log → Type 0
EndsWithLeast rules targets scripts log =
    PlainScripts targets scripts
    → (is_finished (table_of log).rows ≡ true)
    × (is_succeeded (table_of log).rows ≡ false)
    × ((choice : Choice) → IsChoice rules (table_of log).rows choice → ChoosesLeast rules (all_of scripts) choice)
