-- The deadlines of numbers: each number has one at most.
use Rattle.std.specs.Prelude.{◌≡◌, ◌≢◌, ◌<◌, ◌≤◌, min, ℕ, Option, Some, None, List}
use Rattle.std.specs.Ordering.{nat_cmp, ordering_then}
use Rattle.std.specs.declared.cmp.Ordering.{Ordering}
use Rattle.std.specs.declared.cmp.Reverse.{Reverse}
use Rattle.std.specs.List.{Contains}
use Rattle.std.specs.BTreeMap.{is_at}
use Rattle.std.specs.Map.{lookup}

-- the deadline of a number, in a list of numbers with their deadlines
abbrev pub deadline_of : List (ℕ × ℕ) → ℕ → Option ℕ
deadline_of deadlines number = lookup (is_at (nat_cmp number)) deadlines

abbrev pub earlier : Option ℕ → ℕ → ℕ
earlier None deadline = deadline
earlier (Some other) deadline = min other deadline

-- each number has the deadline that it had
abbrev pub AreSame : List (ℕ × ℕ) → List (ℕ × ℕ) → Type 0
AreSame deadlines new = (n : ℕ) → deadline_of new n ≡ deadline_of deadlines n

-- each other number has the deadline that it had
abbrev pub AreSameBut : ℕ → List (ℕ × ℕ) → List (ℕ × ℕ) → Type 0
AreSameBut number deadlines new = (n : ℕ) → n ≢ number → deadline_of new n ≡ deadline_of deadlines n

-- this number has this deadline
abbrev pub IsSet : List (ℕ × ℕ) → ℕ → ℕ → List (ℕ × ℕ) → Type 0
IsSet deadlines number deadline new = (deadline_of new number ≡ Some deadline) × AreSameBut number deadlines new

-- a deadline was added for this number: of two the earlier stays
abbrev pub IsAdded : List (ℕ × ℕ) → ℕ → ℕ → List (ℕ × ℕ) → Type 0
IsAdded deadlines number deadline new =
    (deadline_of new number ≡ Some (earlier (deadline_of deadlines number) deadline)) × AreSameBut number deadlines new

-- this number has no deadline any more
abbrev pub IsWithout : List (ℕ × ℕ) → ℕ → List (ℕ × ℕ) → Type 0
IsWithout deadlines number new = (deadline_of new number ≡ None) × AreSameBut number deadlines new

-- this is the deadline of some number
abbrev pub IsDeadline : List (ℕ × ℕ) → ℕ → Type 0
IsDeadline deadlines deadline = (n : ℕ) × (deadline_of deadlines n ≡ Some deadline)

-- no deadline is before this moment
abbrev pub IsEarliest : List (ℕ × ℕ) → ℕ → Type 0
IsEarliest deadlines moment = (n deadline : ℕ) → deadline_of deadlines n ≡ Some deadline → moment ≤ deadline

-- this number's deadline has come, and no other is before it
abbrev pub IsEarliestDue : List (ℕ × ℕ) → ℕ → ℕ → Type 0
IsEarliestDue deadlines now number =
    (deadline : ℕ) × (deadline_of deadlines number ≡ Some deadline) × (deadline ≤ now) × IsEarliest deadlines deadline

-- no deadline has come
abbrev pub AreLater : ℕ → List (ℕ × ℕ) → Type 0
AreLater now deadlines = (n deadline : ℕ) → deadline_of deadlines n ≡ Some deadline → now < deadline

abbrev pub Entry : Type 0
Entry = Reverse (ℕ × ℕ)

-- the order of the heap: the earliest deadline is the greatest entry
abbrev pub entry_order : Entry → Entry → Ordering
entry_order x y = ordering_then (nat_cmp y.0.0 x.0.0) (nat_cmp y.0.1 x.0.1)

-- each deadline stands among the entries with its number
abbrev pub AreListed : List Entry → List (ℕ × ℕ) → Type 0
AreListed entries deadlines = (n deadline : ℕ) → deadline_of deadlines n ≡ Some deadline → (entry : Entry) × Contains entries entry × (entry.0 ≡ (deadline, n))
