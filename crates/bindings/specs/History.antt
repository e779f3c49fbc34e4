-- The bindings of a user after a history of REGISTER requests (RFC 3261 section 10.3).
use Rattle.std.specs.Prelude.{◌≡◌, ◌⊎◌, ℕ, zero, suc, ◌-◌, Bool, true, false, List, [], ◌∷◌, length, None, Result, Ok, Err, is_some}
use Rattle.std.specs.List.{AllByRecursion}
use Rattle.bindings.specs.declared.refusal.RegisterRefusal.{RegisterRefusal}
use Rattle.bindings.specs.Bindings.{Asked, Binding, Register, RequestId, after_contact, all_asked, binding_of, goes, is_there, most, names, same_binding, same_request, there, without_first}
use Rattle.bindings.specs.Registering.{Registers, is_repeat, refusal, registered}

-- a request that is refused changes nothing
abbrev pub or_old : List Binding → Result (List Binding) RegisterRefusal → List Binding
or_old old (Ok new) = new
or_old old (Err why) = old

-- the requests from the newest to the oldest
abbrev pub bindings_after : List Register → List Binding
bindings_after [] = []
bindings_after (r ∷ earlier) = or_old (bindings_after earlier) (registered r (bindings_after earlier))

-- ---- what is kept, call by call

-- a call that registers: its request, what it answered, and what was kept after it
pub record Attempt : Type 0 where
  pub request : Register
  pub answer : Result (Unit {0}) RegisterRefusal
  pub after : List Binding

-- after the newest of them; nothing at first
abbrev pub kept : List Attempt → List Binding
kept [] = []
kept (attempt ∷ earlier) = attempt.after

-- each begins with what the one before it left
abbrev pub IsRun : List Attempt → Type 0
IsRun [] = Unit {0}
IsRun (attempt ∷ earlier) = Registers attempt.request (kept earlier) attempt.after attempt.answer × IsRun earlier

abbrev pub if_taken : Result (Unit {0}) RegisterRefusal → Register → List Register → List Register
if_taken (Ok _) r earlier = r ∷ earlier
if_taken (Err why) r earlier = earlier

-- the requests that were taken
abbrev pub taken : List Attempt → List Register
taken [] = []
taken (attempt ∷ earlier) = if_taken attempt.answer attempt.request (taken earlier)

-- ---- which bindings are kept, in words of its own

abbrev pub IsIn : {X : Type 0} → X → List X → Type 0
IsIn x [] = ⊥
IsIn x (y ∷ ys) = (y ≡ x) ⊎ IsIn x ys

-- the first that passes
abbrev pub IsFirst : {X : Type 0} → (X → Bool) → List X → X → Type 0
IsFirst test [] x = ⊥
IsFirst test (y ∷ ys) x = ((test y ≡ true) × (y ≡ x)) ⊎ ((test y ≡ false) × IsFirst test ys x)

-- a contact asks for it
abbrev pub IsAsked : Register → List Asked → Binding → Type 0
IsAsked r [] x = ⊥
IsAsked r (asked ∷ contacts) x = ((binding_of r asked ≡ x) × (is_there r.at x ≡ true)) ⊎ IsAsked r contacts x

-- a contact names it, as its turn comes
abbrev pub IsNamed : Register → List Binding → List Asked → Binding → Type 0
IsNamed r bindings [] x = ⊥
IsNamed r bindings (asked ∷ contacts) x = IsFirst (names asked.contact) bindings x ⊎ IsNamed r (after_contact r bindings asked) contacts x

-- it is one of so many that go
abbrev pub Goes : RequestId → ℕ → List Binding → Binding → Type 0
Goes id zero bindings x = ⊥
Goes id (suc n) bindings x = IsFirst (goes id bindings) bindings x ⊎ Goes id n (without_first (goes id bindings) bindings) x

-- `*`, a contact that names it, or too many that end later
abbrev pub TakesAway : Register → List Binding → Binding → Type 0
TakesAway r bindings x =
    (is_some r.star ≡ true) ⊎ (IsNamed r bindings r.contacts x ⊎ Goes r.id (length (all_asked r bindings) - most) (all_asked r bindings) x)

-- the request changes something
abbrev pub IsTaken : Register → List Binding → Type 0
IsTaken r old = (is_repeat r old ≡ false) × (refusal r (there r.at old) ≡ None)

abbrev pub Stays : Register → List Binding → Binding → Type 0
Stays r old x = (is_there r.at x ≡ true) × (TakesAway r (there r.at old) x → ⊥)

-- A request of the history that was taken asked for it, and each later one that was taken came before its end and did not take it away.
abbrev pub Stands : List Register → Binding → Type 0
Stands [] x = ⊥
Stands (r ∷ earlier) x =
    (IsTaken r (bindings_after earlier) × IsAsked r r.contacts x)
    ⊎ (Stands earlier x × (IsTaken r (bindings_after earlier) → Stays r (bindings_after earlier) x))

-- ---- bindings of one request

-- where one request made both, they do not name the same binding
abbrev pub Differ : Binding → Binding → Type 0
Differ a b = same_request a.by b.by ≡ true → same_binding a.contact b.contact ≡ false

abbrev pub EachPair : {X : Type 0} → (X → X → Type 0) → List X → Type 0
EachPair R [] = Unit {0}
EachPair R (x ∷ xs) = AllByRecursion (R x) xs × EachPair R xs
