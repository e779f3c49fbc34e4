-- Tables in which each row is tried or has ended, and what plain answers do to them.
use Rattle.std.proofs.Common.{◌≡◌, ℕ, zero, suc, ◌+◌, ◌≤◌, ◌==◌, Bool, true, false, cond, nat_lt, All, List, [], ◌∷◌, ◌++◌, length, map, Option, Some, slice_get, refl, ap, arith, ◌∙◌, sym, subst}
use Rattle.std.specs.Prelude.{unwrap_or}
use Rattle.std.specs.Option.{option_map}
use Rattle.std.proofs.lemmas.Bool.Decides.{nat_tests}
use Rattle.fork_model.specs.Table.{StoredAnswer, Stored, State, Idle, Trying, Rung, Ended, Row, Table, is_idle, is_ended}
use Rattle.fork_model.specs.Event.{Event, FinalAnswer, Ring, Answer, Timeout, Fault, TimerC, GiveUp, Cancel}
use Rattle.fork_model.specs.Waiting.{may_start}
use Rattle.fork_model.specs.Contacts.{ContactLists, taking_at}
use Rattle.fork_model.specs.Step.{Effect, effect, answers, accepts, redirects, stores, with_state, with_effect, change_at, closed_state, settled_state, settled_row, settled, next}
use Rattle.fork_model.specs.History.{after}
use Rattle.fork_model.specs.Steps.{BranchesAlwaysGoOn}
use Rattle.fork_model.proofs.laws.StepLemmas.{and_left}
use Rattle.fork_engine.specs.Plain.{IsPlainAnswer, is_answer, answers_of}

-- ---- lists

pub all_head : {X : Type 0} → (P : X → Type 0) (x : X) (xs : List X) → All P (x ∷ xs) → P x
all_head P x xs h = h 0 x (omega arith)

pub all_tail : {X : Type 0} → (P : X → Type 0) (x : X) (xs : List X) → All P (x ∷ xs) → All P xs
all_tail P x xs h = λ k d lt. h (suc k) d (omega arith)

pub all_cons : {X : Type 0} → (P : X → Type 0) (x : X) (xs : List X) → P x → All P xs → All P (x ∷ xs)
all_cons P x xs p ps zero d lt = p
all_cons P x xs p ps (suc k) d lt = ps k d (omega arith)

pub all_nil : {X : Type 0} → (P : X → Type 0) → All P []
all_nil P k d lt = absurd (omega arith)

-- ---- rows that settling leaves: each is tried or has ended

abbrev pub is_fixed : State → Bool
is_fixed Idle = false
is_fixed Trying = true
is_fixed (Rung cancelled) = false
is_fixed (Ended end) = true

abbrev pub AreFixed : List Row → Type 0
AreFixed [] = Unit {0}
AreFixed (row ∷ rows) = (is_fixed row.state ≡ true) × AreFixed rows

-- settling leaves them
fixed_state : (t : Table) (state : State) (start closed : Bool) → is_fixed state ≡ true → (start ≡ true → is_idle state ≡ true)
    → cond closed (closed_state t.kind state) (cond start Trying state) ≡ state
fixed_state t Idle start closed fixed idle = absurd cc
fixed_state t Trying true true fixed idle = refl
fixed_state t Trying false true fixed idle = refl
fixed_state t Trying true false fixed idle = refl
fixed_state t Trying false false fixed idle = refl
fixed_state t (Rung b) start closed fixed idle = absurd cc
fixed_state t (Ended end) start true fixed idle = refl
fixed_state t (Ended end) true false fixed idle = absurd (let e : is_idle (Ended end) ≡ true = idle refl in cc)
fixed_state t (Ended end) false false fixed idle = refl

starts_idle : (rows : List Row) (row : Row) → may_start rows row ≡ true → is_idle row.state ≡ true
starts_idle rows row e = and_left _ _ (and_left _ _ (and_left _ _ e))

fixed_settled : (t : Table) (rows : List Row) → AreFixed rows → map (settled_row t) rows ≡ rows
fixed_settled t [] fixed = refl
fixed_settled t (row ∷ rows) fixed =
    let here : settled_state t row ≡ row.state = fixed_state t row.state (may_start t.rows row) t.closed fixed.0 (starts_idle t.rows row) in
    (λ i. record row { state = here i } ∷ fixed_settled t rows fixed.1 i)

-- ---- a plain answer

-- the state that it brings about: an answer of that status is stored
abbrev pub Stores : State → ℕ → Type 0
Stores state status = (kept : StoredAnswer) × (state ≡ Ended (Stored kept)) × (kept.status ≡ status)

-- it stores, adds no row
pub record IsStoring (e : Effect) (status : ℕ) : Type 0 where
  pub stores : Stores e.state status
  pub none : e.fresh ≡ []

no_taking : ContactLists
no_taking = record { fresh = []; left = [] }

taking_none : (t : Table) (row : Row) → taking_at t row [] ≡ no_taking
unfolding no_taking
taking_none t row = go _
  where
    go : (b : Bool) → cond b no_taking no_taking ≡ no_taking
    go true = refl
    go false = refl

storing : (t : Table) (n : ℕ) (row : Row) (at : ℕ) (answer : FinalAnswer) → 300 ≤ answer.status → answer.offers ≡ [] → IsStoring (answers t n row at answer) answer.status
unfolding no_taking
storing t n row at answer least none =
    let over : nat_lt answer.status 300 ≡ false = grind (arith, nat_tests) in
    let P : Bool → Type 0 = λ b. IsStoring (cond b (accepts at) (cond (nat_lt answer.status 400) (redirects n at answer (taking_at t row answer.offers)) (stores at answer))) answer.status in
    subst P (sym over) (go (nat_lt answer.status 400))
  where
    turned : IsStoring (redirects n at answer (taking_at t row answer.offers)) answer.status
    turned =
        let Q : List _ → Type 0 = λ offers. IsStoring (redirects n at (record answer { offers = offers }) (taking_at t row offers)) answer.status in
        let R : ContactLists → Type 0 = λ taken. IsStoring (redirects n at (record answer { offers = [] }) taken) answer.status in
        subst Q (sym none) (subst R (sym (taking_none t row)) (record { stores = (_, refl, refl); none = refl }))

    go : (b : Bool) → IsStoring (cond b (redirects n at answer (taking_at t row answer.offers)) (stores at answer)) answer.status
    go true = turned
    go false = record { stores = (_, refl, refl); none = refl }

append_nil : (rows more : List Row) → more ≡ [] → rows ++ more ≡ rows
append_nil [] more e = e
append_nil (row ∷ rows) more e = ap (λ (rs : List Row). row ∷ rs) (append_nil rows more e)

fixed_with : (rows : List Row) (n : ℕ) (state : State) → is_fixed state ≡ true → AreFixed rows → AreFixed (with_state rows n state)
fixed_with [] n state c fixed = tt
fixed_with (row ∷ rows) zero state c fixed = (c, fixed.1)
fixed_with (row ∷ rows) (suc n) state c fixed = (fixed.0, fixed_with rows n state c fixed.1)

stores_fixed : (state : State) (status : ℕ) → Stores state status → is_fixed state ≡ true
stores_fixed state status s = ap is_fixed s.1

-- the table after a plain answer of a row that is tried: that row has stored it, and the others stay
pub next_plain : (t : Table) (at n : ℕ) (answer : FinalAnswer) (row : Row) → AreFixed t.rows → slice_get t.rows n ≡ Some row → row.state ≡ Trying
    → 300 ≤ answer.status → answer.offers ≡ []
    → (state : State) × Stores state answer.status × ((next t (Answer n answer) at).rows ≡ with_state t.rows n state)
next_plain t at n answer row fixed there tried least none =
    let e : Effect = answers t n row at answer in
    let s : IsStoring e answer.status = storing t n row at answer least none in
    let found : change_at t at (Answer n answer) n (slice_get t.rows n) ≡ change_at t at (Answer n answer) n (Some row) = ap (change_at t at (Answer n answer) n) there in
    let made : change_at t at (Answer n answer) n (Some row) ≡ Some (with_effect t n e) = ap (λ (st : State). option_map (with_effect t n) (effect t row at (Answer n answer) st)) tried in
    let stepped : next t (Answer n answer) at ≡ settled (with_effect t n e) = ap (λ (c : Option Table). unwrap_or (option_map settled c) t) (found ∙ made) in
    let rows : (with_effect t n e).rows ≡ with_state t.rows n e.state = append_nil _ e.fresh s.none in
    let quiet : AreFixed (with_effect t n e).rows = subst AreFixed (sym rows) (fixed_with t.rows n e.state (stores_fixed e.state answer.status s.stores) fixed) in
    (e.state, s.stores, ap (λ (u : Table). u.rows) stepped ∙ fixed_settled (with_effect t n e) (with_effect t n e).rows quiet ∙ rows)

get_with : (rows : List Row) (n : ℕ) (row : Row) (state : State) → slice_get rows n ≡ Some row → slice_get (with_state rows n state) n ≡ Some (record row { state = state })
get_with [] n row state e = absurd cc
get_with (x ∷ rows) zero row state e = let same : x ≡ row = cc in ap (λ (r : Row). Some (record r { state = state })) same
get_with (x ∷ rows) (suc n) row state e = get_with rows n row state e

get_other : (rows : List Row) (n m : ℕ) (state : State) → (n ≡ m → ⊥) → slice_get (with_state rows n state) m ≡ slice_get rows m
get_other [] n m state d = refl
get_other (x ∷ rows) zero zero state d = absurd (d refl)
get_other (x ∷ rows) zero (suc m) state d = refl
get_other (x ∷ rows) (suc n) zero state d = refl
get_other (x ∷ rows) (suc n) (suc m) state d = get_other rows n m state (λ e. d (ap suc e))

length_with : (rows : List Row) (n : ℕ) (state : State) → length (with_state rows n state) ≡ length rows
length_with [] n state = refl
length_with (row ∷ rows) zero state = refl
length_with (row ∷ rows) (suc n) state = ap suc (length_with rows n state)

-- ---- many plain answers

-- each row that will be answered is tried
abbrev pub AreWaited : List Row → List Event → Type 0
AreWaited rows events = (n : ℕ) → 1 ≤ answers_of n events → (row : Row) × (slice_get rows n ≡ Some row) × (row.state ≡ Trying)

abbrev pub OnceEach : List Event → Type 0
OnceEach events = (n : ℕ) → answers_of n events ≤ 1

abbrev pub IsStoredIn : List Row → Event → Type 0
IsStoredIn rows (Ring n status) = ⊥
IsStoredIn rows (Answer n answer) = (row : Row) × (slice_get rows n ≡ Some row) × Stores row.state answer.status
IsStoredIn rows (Timeout n) = ⊥
IsStoredIn rows (Fault n) = ⊥
IsStoredIn rows (TimerC n) = ⊥
IsStoredIn rows (GiveUp n) = ⊥
IsStoredIn rows Cancel = ⊥

stays_stored : BranchesAlwaysGoOn → (t : Table) (at : ℕ) (events : List Event) (n status : ℕ) (row : Row) → slice_get t.rows n ≡ Some row → Stores row.state status
    → (new : Row) × (slice_get (after t at events).rows n ≡ Some new) × Stores new.state status
stays_stored go_on t at events n status row there s =
    let found = go_on t at events n row there in
    let same : found.0.state ≡ row.state = found.2.ended (ap is_ended s.1) in
    (found.0, found.1, (s.0, same ∙ s.1, s.2))

here_once : (n m : ℕ) (answer : FinalAnswer) (events : List Event) → m ≡ n → answers_of n (Answer m answer ∷ events) ≡ 1 + answers_of n events
here_once n m answer events e =
    let b : (m == n) ≡ true = grind (arith, nat_tests) in rw b refl

there_more : (n : ℕ) (event : Event) (events : List Event) → answers_of n events ≤ answers_of n (event ∷ events)
there_more n event events = go (is_answer (λ status. true) n event)
  where
    go : (b : Bool) → answers_of n events ≤ cond b 1 0 + answers_of n events
    go true = omega arith
    go false = omega arith

pub each_stored : BranchesAlwaysGoOn → (t : Table) (at : ℕ) (events : List Event) → AreFixed t.rows → AreWaited t.rows events → OnceEach events
    → All IsPlainAnswer events → All (IsStoredIn (after t at events).rows) events × (length (after t at events).rows ≡ length t.rows)
each_stored go_on t at [] fixed waited once plain = (all_nil _, refl)
each_stored go_on t at (Ring n status ∷ events) fixed waited once plain = absurd (all_head IsPlainAnswer (Ring n status) events plain)
each_stored go_on t at (Timeout n ∷ events) fixed waited once plain = absurd (all_head IsPlainAnswer (Timeout n) events plain)
each_stored go_on t at (Fault n ∷ events) fixed waited once plain = absurd (all_head IsPlainAnswer (Fault n) events plain)
each_stored go_on t at (TimerC n ∷ events) fixed waited once plain = absurd (all_head IsPlainAnswer (TimerC n) events plain)
each_stored go_on t at (GiveUp n ∷ events) fixed waited once plain = absurd (all_head IsPlainAnswer (GiveUp n) events plain)
each_stored go_on t at (Cancel ∷ events) fixed waited once plain = absurd (all_head IsPlainAnswer Cancel events plain)
each_stored go_on t at (Answer n answer ∷ events) fixed waited once plain =
    let is = all_head IsPlainAnswer (Answer n answer) events plain in
    let one : answers_of n (Answer n answer ∷ events) ≡ 1 + answers_of n events = here_once n n answer events refl in
    let at_n = waited n (omega (arith, one)) in
    let step = next_plain t at n answer at_n.0 fixed at_n.1 at_n.2 is.0 is.2 in
    let u : Table = next t (Answer n answer) at in
    let fixed_next : AreFixed u.rows = subst AreFixed (sym step.2) (fixed_with t.rows n step.0 (stores_fixed step.0 answer.status step.1) fixed) in
    let stored : slice_get u.rows n ≡ Some (record at_n.0 { state = step.0 }) = ap (λ (rs : List Row). slice_get rs n) step.2 ∙ get_with t.rows n at_n.0 step.0 at_n.1 in
    let waited_next : AreWaited u.rows events = λ m more.
    let differ : n ≡ m → ⊥ = λ e. let two : answers_of m (Answer n answer ∷ events) ≡ 1 + answers_of m events = here_once m n answer events e in
    let le : answers_of m (Answer n answer ∷ events) ≤ 1 = once m in omega (arith, two) in
    let le : answers_of m events ≤ answers_of m (Answer n answer ∷ events) = there_more m (Answer n answer) events in
    let w = waited m (omega arith) in
    (w.0, ap (λ (rs : List Row). slice_get rs m) step.2 ∙ get_other t.rows n m step.0 differ ∙ w.1, w.2) in
    let once_next : OnceEach events = λ m. let le : answers_of m events ≤ answers_of m (Answer n answer ∷ events) = there_more m (Answer n answer) events in
    let most : answers_of m (Answer n answer ∷ events) ≤ 1 = once m in omega arith in
    let rest = each_stored go_on u (suc at) events fixed_next waited_next once_next (all_tail IsPlainAnswer (Answer n answer) events plain) in (
      all_cons (IsStoredIn (after u (suc at) events).rows) (Answer n answer) events
          (stays_stored go_on u (suc at) events n answer.status (record at_n.0 { state = step.0 }) stored step.1)
          rest.0,
      rest.1 ∙ ap (λ (rs : List Row). length rs) step.2 ∙ length_with t.rows n step.0,
    )
