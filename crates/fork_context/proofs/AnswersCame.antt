-- What a context shows of its stored answers came with events that it took.
use Rattle.fork_context.proofs.Common.{◌≡◌, ℕ, zero, suc, ◌<◌, ◌≤◌, ◌==◌, ◌||◌, ◌&&◌, Bool, true, false, List, [], ◌∷◌, ◌++◌, length, map, Option, Some, None, refl, ap, arith, ◌∙◌, sym, subst, cond, inl, inr, ◌⊎◌, slice_get, nat_lt, filter, unwrap_or, IfSome}
use Rattle.fork_context.proofs.Common.{filter_map, flat_map, cons_option, AllByRecursion, option_map, option_and_then, Kind, Rules, Row, Table, State, Idle, Trying, Rung, Ended, Accepted, Offer, Challenge, StoredAnswer, stored_of, stored_at}
use Rattle.fork_context.proofs.Common.{Event, FinalAnswer, Ring, Answer, Timeout, Fault, TimerC, GiveUp, Cancel, Core, Target, opening, Effect, effect, answers, with_state, with_effect, change_at, closed_state, settled, settled_row, next, may_start}
use Rattle.fork_context.proofs.Common.{Choice, numbers_below, other_askers, by_arrival, common_steps, nat_tests}
use Rattle.std.proofs.lemmas.Bool.{cond-true}
use Rattle.std.specs.Option.{option_copied}
use Rattle.std.specs.Borrow.{Bor}
use Rattle.fork_model.specs.History.{after, table}
use Rattle.fork_model.specs.Core.{opening_core}
use Rattle.fork_model.specs.Choice.{Best, Only503, NoAnswer408}
use Rattle.fork_model.specs.Challenges.{asks_credentials, with_arrival, stored_beside, added_to, challenge_list}
use Rattle.fork_model.specs.Sources.{HasStored, IsOneOf, IsReceived, IsStoredBy, EventsStoreAnswers, StoredAnswersCame}
use Rattle.fork_model.proofs.laws.Headline.{stands_by_its_history}
use Rattle.fork_context.specs.Led.{IsLedTo}
use Rattle.fork_context.specs.LeftView.{left_of, left_of_answer}
use Rattle.fork_context.specs.Came.{taken_events, CameByRedirection, CameByChallenge}

-- ---- a 2xx stores nothing

no_store : (c b : Bool) (kind : Kind) (at : ℕ)
    → stored_of (cond {A = State} c (closed_state kind (Ended (Accepted at))) (cond {A = State} b Trying (Ended (Accepted at)))) ≡ None
no_store true b kind at = refl
no_store false true kind at = refl
no_store false false kind at = refl

accepted_at : (u : Table) (rows fresh : List Row) (n at : ℕ) (row new : Row) → slice_get rows n ≡ Some row
    → slice_get (map (settled_row u) (with_state rows n (Ended (Accepted at)) ++ fresh)) n ≡ Some new → stored_of new.state ≡ None
accepted_at u [] fresh n at row new there is = absurd cc
accepted_at u (x ∷ rows) fresh zero at row new there is =
    let same : settled_row u (record x { state = Ended (Accepted at) }) ≡ new = cc in
    ap (λ (r : Row). stored_of r.state) (sym same) ∙ no_store u.closed (may_start u.rows (record x { state = Ended (Accepted at) })) u.kind at
accepted_at u (x ∷ rows) fresh (suc n) at row new there is = accepted_at u rows fresh n at row new there is

success_stores : (t : Table) (n at : ℕ) (answer : FinalAnswer) (stored : StoredAnswer) → nat_lt answer.status 300 ≡ true
    → HasStored (next t (Answer n answer) at) n stored → HasStored t n stored
success_stores t n at answer stored e has = by (slice_get t.rows n) refl has
  where
    with_it : (row : Row) → slice_get t.rows n ≡ Some row → HasStored (settled (with_effect t n (answers t n row at answer))) n stored → ⊥
    with_it row there h =
        let accepts_it : Effect = record { state = Ended (Accepted at); fresh = []; closes = true } in
        let H : Effect → Type 0 = λ x. HasStored (settled (with_effect t n x)) n stored in
        let same : answers t n row at answer ≡ accepts_it = cond-true _ _ _ e in
        let found_it = subst H same h in
        let none = accepted_at (with_effect t n accepts_it) t.rows [] n at row found_it.0 there found_it.1 in
        absurd (let no : None ≡ Some stored = sym none ∙ found_it.2 in cc)

    by_state : (row : Row) → slice_get t.rows n ≡ Some row → (s : State)
        → HasStored (unwrap_or (option_map settled (option_map (with_effect t n) (effect t row at (Answer n answer) s))) t) n stored → HasStored t n stored
    by_state row there Idle h = h
    by_state row there Trying h = absurd (with_it row there h)
    by_state row there (Rung cancelled) h = absurd (with_it row there h)
    by_state row there (Ended end) h = h

    by : (o : Option Row) → slice_get t.rows n ≡ o
        → HasStored (unwrap_or (option_map settled (change_at t at (Answer n answer) n o)) t) n stored → HasStored t n stored
    by None there h = h
    by (Some row) there h = by_state row there row.state h

-- so what is stored is no 2xx
abbrev IsUnsuccessful : StoredAnswer → Type 0
IsUnsuccessful stored = nat_lt stored.status 300 ≡ false

stores_none : EventsStoreAnswers → (t : Table) (event : Event) (at n : ℕ) (stored : StoredAnswer) → HasStored (next t event at) n stored
    → HasStored t n stored ⊎ IsUnsuccessful stored
stores_none store t event at n stored has =
    elim (store t event at n stored has) [ inl old ↦ inl old | inr new ↦ by event has new ]
  where
    by_status : (m : ℕ) (answer : FinalAnswer) → n ≡ m → stored.status ≡ answer.status → HasStored (next t (Answer m answer) at) n stored
        → (b : Bool) → nat_lt answer.status 300 ≡ b → HasStored t n stored ⊎ IsUnsuccessful stored
    by_status m answer same status h false e = inr (ap (λ (k : ℕ). nat_lt k 300) status ∙ e)
    by_status m answer same status h true e =
        let H : ℕ → Type 0 = λ k. HasStored (next t (Answer k answer) at) n stored in
        inl (success_stores t n at answer stored e (subst H (sym same) h))

    by : (event : Event) → HasStored (next t event at) n stored → IsStoredBy event at n stored → HasStored t n stored ⊎ IsUnsuccessful stored
    by (Ring m status) h new = absurd new
    by (Answer m answer) h new = by_status m answer new.0 new.1.status h (nat_lt answer.status 300) refl
    by (Timeout m) h new = inr (ap (λ (k : ℕ). nat_lt k 300) new.1.status)
    by (Fault m) h new = inr (ap (λ (k : ℕ). nat_lt k 300) new.1.status)
    by (TimerC m) h new = inr (ap (λ (k : ℕ). nat_lt k 300) new.1.status)
    by (GiveUp m) h new = absurd new
    by Cancel h new = absurd new

unsuccessful_after : EventsStoreAnswers → (events : List Event) (t : Table) (at : ℕ) → ((n : ℕ) (stored : StoredAnswer) → HasStored t n stored → IsUnsuccessful stored)
    → (n : ℕ) (stored : StoredAnswer) → HasStored (after t at events) n stored → IsUnsuccessful stored
unsuccessful_after store [] t at first n stored has = first n stored has
unsuccessful_after store (event ∷ events) t at first n stored has =
    unsuccessful_after store events (next t event at) (suc at)
    (λ m s h. elim (stores_none store t event at m s h) [ inl old ↦ first m s old | inr new ↦ new ])
    n stored has

opening_unsuccessful : StoredAnswersCame → (kind : Kind) (rules : Rules) (targets : List Target) (n : ℕ) (stored : StoredAnswer)
    → HasStored (opening kind rules targets) n stored → IsUnsuccessful stored
opening_unsuccessful came kind rules targets n stored has =
    let from = came kind rules targets [] n stored has in
    absurd (let none : None ≡ Some from.0 = from.1 in cc)

-- ---- the event behind a stored answer

record Came (events : List Event) (n : ℕ) (stored : StoredAnswer) : Type 0 where
  pub unsuccessful : IsUnsuccessful stored
  pub event : Event
  pub there : slice_get events stored.arrival ≡ Some event
  pub stores : IsStoredBy event stored.arrival n stored

stored_came : StoredAnswersCame → EventsStoreAnswers → (core : Core) (led : IsLedTo core) (n : ℕ) (stored : StoredAnswer)
    → HasStored core.table n stored → Came (taken_events core led) n stored
stored_came came store core led n stored has =
    let start : Core = opening_core led.kind led.rules led.targets in
    let stands : core.table ≡ table led.kind led.rules led.targets (taken_events core led) =
    ap (λ (c : Core). c.table) led.led ∙ stands_by_its_history start led.events in
    let H : Table → Type 0 = λ t. HasStored t n stored in
    let has_it = subst H stands has in
    let from = came led.kind led.rules led.targets (taken_events core led) n stored has_it in
    record {
      unsuccessful = unsuccessful_after store (taken_events core led) start.table 0 (opening_unsuccessful came led.kind led.rules led.targets) n stored has_it;
      event = from.0;
      there = from.1;
      stores = from.2;
    }

-- the answer of the branch that it is
abbrev CameAs : List Event → ℕ → StoredAnswer → Type 0
CameAs events n stored =
    (answer : FinalAnswer) × (slice_get events stored.arrival ≡ Some (Answer n answer)) × IsReceived answer stored.arrival stored

received_came : (events : List Event) (n : ℕ) (stored : StoredAnswer) → Came events n stored → stored.received ≡ true → CameAs events n stored
received_came events n stored came e = by came.event came.there came.stores
  where
    differs : stored.received ≡ false → CameAs events n stored
    differs is = absurd (let no : true ≡ false = sym e ∙ is in cc)

    by : (event : Event) → slice_get events stored.arrival ≡ Some event → IsStoredBy event stored.arrival n stored → CameAs events n stored
    by (Ring m status) there new = absurd new
    by (Answer m answer) there new = (answer, there ∙ ap (λ (k : ℕ). Some (Answer k answer)) (sym new.0), new.1)
    by (Timeout m) there new = differs new.1.received
    by (Fault m) there new = differs new.1.received
    by (TimerC m) there new = differs new.1.received
    by (GiveUp m) there new = absurd new
    by Cancel there new = absurd new

abbrev is_asking : ℕ → Bool
is_asking status = status == 401 || status == 407

-- a 401 or a 407 came
asker_came : (events : List Event) (n : ℕ) (stored : StoredAnswer) → Came events n stored → is_asking stored.status ≡ true → CameAs events n stored
asker_came events n stored came e = by came.event came.there came.stores
  where
    differs : (status : ℕ) → is_asking status ≡ false → stored.status ≡ status → CameAs events n stored
    differs status none is = absurd (let no : true ≡ false = sym e ∙ ap is_asking is ∙ none in cc)

    by : (event : Event) → slice_get events stored.arrival ≡ Some event → IsStoredBy event stored.arrival n stored → CameAs events n stored
    by (Ring m status) there new = absurd new
    by (Answer m answer) there new = (answer, there ∙ ap (λ (k : ℕ). Some (Answer k answer)) (sym new.0), new.1)
    by (Timeout m) there new = differs 408 refl new.1.status
    by (Fault m) there new = differs 503 refl new.1.status
    by (TimerC m) there new = differs 408 refl new.1.status
    by (GiveUp m) there new = absurd new
    by Cancel there new = absurd new

-- ---- the contacts left

is_redirection : (stored status : ℕ) → stored ≡ status → nat_lt stored 300 ≡ false → nat_lt stored 400 ≡ true → (300 ≤ status) × (status < 400)
is_redirection stored status same low high = grind (arith, common_steps, nat_tests)

left_came : StoredAnswersCame → EventsStoreAnswers → (core : Core) (led : IsLedTo core) (n : ℕ) (left : List Offer)
    → option_and_then left_of (slice_get core.table.rows n) ≡ Some left → CameByRedirection (taken_events core led) n left
left_came came store core led n left is = by_row (slice_get core.table.rows n) refl is
  where
    by_bools : (stored : StoredAnswer) → Came (taken_events core led) n stored → (r b : Bool) → stored.received ≡ r → nat_lt stored.status 400 ≡ b
        → cond {A = Option (List Offer)} (r && b) (Some stored.left) None ≡ Some left → CameByRedirection (taken_events core led) n left
    by_bools stored from false b received low e = absurd cc
    by_bools stored from true false received low e = absurd cc
    by_bools stored from true true received low e =
        let answer = received_came (taken_events core led) n stored from received in
        let same : stored.left ≡ left = cc in
        let P : List Offer → Type 0 = λ offers. AllByRecursion (IsOneOf answer.0.offers) offers in
        record {
          place = stored.arrival;
          answer = answer.0;
          came = answer.1;
          redirects = is_redirection stored.status answer.0.status answer.2.status from.unsuccessful low;
          contacts = subst P same answer.2.left;
        }

    by_stored : (row : Row) → slice_get core.table.rows n ≡ Some row → (o : Option StoredAnswer) → stored_of row.state ≡ o
        → option_and_then left_of_answer o ≡ Some left → CameByRedirection (taken_events core led) n left
    by_stored row there None has e = absurd cc
    by_stored row there (Some stored) has e =
        by_bools stored (stored_came came store core led n stored (row, there, has)) stored.received (nat_lt stored.status 400) refl refl e

    by_row : (o : Option Row) → slice_get core.table.rows n ≡ o → option_and_then left_of o ≡ Some left → CameByRedirection (taken_events core led) n left
    by_row None there e = absurd cc
    by_row (Some row) there e = by_stored row there (stored_of row.state) refl e

-- those that a caller is lent
pub shown_came : StoredAnswersCame → EventsStoreAnswers → (core : Core) (led : IsLedTo core) (n : ℕ) (shown : Option (Bor (List Offer)))
    → option_copied shown ≡ option_and_then left_of (slice_get core.table.rows n)
    → IfSome shown (λ left. CameByRedirection (taken_events core led) n left.now)
shown_came came store core led n None is = tt
shown_came came store core led n (Some left) is = left_came came store core led n left.now (sym is)

-- ---- what holds of each of a list

each_of : {X : Type 0} (P : X → Type 0) (xs : List X) → ((k : ℕ) (x : X) → slice_get xs k ≡ Some x → P x) → AllByRecursion P xs
each_of P [] each = tt
each_of P (x ∷ xs) each = (each zero x refl, each_of P xs (λ k y is. each (suc k) y is))

all_weaker : {X : Type 0} (P Q : X → Type 0) → ((x : X) → P x → Q x) → (xs : List X) → AllByRecursion P xs → AllByRecursion Q xs
all_weaker P Q more [] all = tt
all_weaker P Q more (x ∷ xs) all = (more x all.0, all_weaker P Q more xs all.1)

all_append : {X : Type 0} (P : X → Type 0) (xs ys : List X) → AllByRecursion P xs → AllByRecursion P ys → AllByRecursion P (xs ++ ys)
all_append P [] ys all rest = rest
all_append P (x ∷ xs) ys all rest = (all.0, all_append P xs ys all.1 rest)

all_flat : {X Y : Type 0} (P : Y → Type 0) (f : X → List Y) (xs : List X) → AllByRecursion (λ x. AllByRecursion P (f x)) xs → AllByRecursion P (flat_map f xs)
all_flat P f [] all = tt
all_flat P f (x ∷ xs) all = all_append P (f x) (flat_map f xs) all.0 (all_flat P f xs all.1)

all_found : {X Y : Type 0} (P : Y → Type 0) (f : X → Option Y) (xs : List X) → ((x : X) (y : Y) → f x ≡ Some y → P y) → AllByRecursion P (filter_map f xs)
all_found {X} {Y} P f [] each = tt
all_found {X} {Y} P f (x ∷ xs) each = go (f x) refl (all_found P f xs each)
  where
    go : (o : Option Y) → f x ≡ o → AllByRecursion P (filter_map f xs) → AllByRecursion P (cons_option o (filter_map f xs))
    go None is rest = rest
    go (Some y) is rest = (each x y is, rest)

all_kept : {X : Type 0} (P : X → Type 0) (test : X → Bool) (xs : List X) → AllByRecursion P xs → AllByRecursion (λ x. P x × (test x ≡ true)) (filter test xs)
all_kept {X} P test [] all = tt
all_kept {X} P test (x ∷ xs) all = go (test x) refl (all_kept P test xs all.1)
  where
    go : (b : Bool) → test x ≡ b → AllByRecursion (λ y. P y × (test y ≡ true)) (filter test xs)
        → AllByRecursion (λ y. P y × (test y ≡ true)) (cond b (x ∷ filter test xs) (filter test xs))
    go false is rest = rest
    go true is rest = ((all.0, is), rest)

all_with_arrival : (P : StoredAnswer → Type 0) (answer : StoredAnswer) (answers : List StoredAnswer) → P answer → AllByRecursion P answers
    → AllByRecursion P (with_arrival answer answers)
all_with_arrival P answer [] here all = (here, tt)
all_with_arrival P answer (other ∷ others) here all = go (nat_lt answer.arrival other.arrival) (all_with_arrival P answer others here all.1)
  where
    go : (b : Bool) → AllByRecursion P (with_arrival answer others)
        → AllByRecursion P (cond b (answer ∷ other ∷ others) (other ∷ with_arrival answer others))
    go true rest = (here, all)
    go false rest = (all.0, rest)

all_by_arrival : (P : StoredAnswer → Type 0) (answers : List StoredAnswer) → AllByRecursion P answers → AllByRecursion P (by_arrival answers)
all_by_arrival P [] all = tt
all_by_arrival P (answer ∷ answers) all = all_with_arrival P answer (by_arrival answers) all.0 (all_by_arrival P answers all.1)

-- ---- the challenges added

asked : (stored status : ℕ) → stored ≡ status → is_asking stored ≡ true → (status ≡ 401) ⊎ (status ≡ 407)
asked stored status same e = grind (arith, common_steps, nat_tests)

-- those of one answer
asker_challenges : (events : List Event) (n : ℕ) (stored : StoredAnswer) → Came events n stored → asks_credentials stored ≡ true
    → AllByRecursion (CameByChallenge events) stored.challenges
asker_challenges events n stored came e =
    let answer = asker_came events n stored came e in
    let P : List Challenge → Type 0 = λ challenges. AllByRecursion (CameByChallenge events) challenges in
    subst P (sym answer.2.challenges)
    (each_of (CameByChallenge events) answer.0.challenges (λ k challenge is. record {
      place = stored.arrival;
      n = n;
      answer = answer.0;
      came = answer.1;
      asks = asked stored.status answer.0.status answer.2.status e;
      one = (k, is);
    }))

-- an answer stored for another row
stored_there : (t : Table) (n m : ℕ) (stored : StoredAnswer) → stored_beside t.rows n m ≡ Some stored → HasStored t m stored
stored_there t n m stored is = by (m == n) (slice_get t.rows m) refl is
  where
    by : (b : Bool) (o : Option Row) → slice_get t.rows m ≡ o → cond b None (stored_at o) ≡ Some stored → HasStored t m stored
    by true o there e = absurd cc
    by false None there e = absurd cc
    by false (Some row) there e = (row, there, e)

abbrev IsStoredIn : Table → StoredAnswer → Type 0
IsStoredIn t stored = (m : ℕ) × HasStored t m stored

askers_stored : (t : Table) (n : ℕ) → AllByRecursion (λ stored. IsStoredIn t stored × (asks_credentials stored ≡ true)) (other_askers t.rows n)
askers_stored t n =
    all_kept (IsStoredIn t) asks_credentials (filter_map (stored_beside t.rows n) (numbers_below (length t.rows)))
    (all_found (IsStoredIn t) (stored_beside t.rows n) (numbers_below (length t.rows)) (λ m stored is. (m, stored_there t n m stored is)))

askers_came : StoredAnswersCame → EventsStoreAnswers → (core : Core) (led : IsLedTo core) (n : ℕ)
    → AllByRecursion (CameByChallenge (taken_events core led)) (flat_map (λ (answer : StoredAnswer). answer.challenges) (by_arrival (other_askers core.table.rows n)))
askers_came came store core led n =
    let Each : StoredAnswer → Type 0 = λ stored. AllByRecursion (CameByChallenge (taken_events core led)) stored.challenges in
    all_flat (CameByChallenge (taken_events core led)) (λ (answer : StoredAnswer). answer.challenges) (by_arrival (other_askers core.table.rows n))
    (all_by_arrival Each (other_askers core.table.rows n)
    (all_weaker (λ stored. IsStoredIn core.table stored × (asks_credentials stored ≡ true)) Each
    (λ stored h. asker_challenges (taken_events core led) h.0.0 stored (stored_came came store core led h.0.0 stored h.0.1) h.1)
    (other_askers core.table.rows n) (askers_stored core.table n)))

pub challenges_came : StoredAnswersCame → EventsStoreAnswers → (core : Core) (led : IsLedTo core) (choice : Choice)
    → AllByRecursion (CameByChallenge (taken_events core led)) (challenge_list core.table.rows choice)
challenges_came came store core led (Only503 n) = tt
challenges_came came store core led NoAnswer408 = tt
challenges_came came store core led (Best n) = added (stored_at (slice_get core.table.rows n))
  where
    by : (b : Bool) → AllByRecursion (CameByChallenge (taken_events core led))
        (cond b (flat_map (λ (answer : StoredAnswer). answer.challenges) (by_arrival (other_askers core.table.rows n))) [])
    by true = askers_came came store core led n
    by false = tt

    added : (o : Option StoredAnswer) → AllByRecursion (CameByChallenge (taken_events core led)) (added_to core.table.rows n o)
    added None = tt
    added (Some chosen) = by (asks_credentials chosen)
