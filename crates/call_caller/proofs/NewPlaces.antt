-- The rows that one event adds stand for contacts at places of their own.
use Rattle.call_caller.proofs.Common.{◌≡◌, ◌≢◌, ◌∙◌, ℕ, zero, suc, ◌<◌, ◌≤◌, ap, refl, sym, subst, arith, true, false, Bool, List, [], ◌∷◌, ◌++◌, map, length, drop, Option, Some, None, slice_get, cond, ◌||◌, ◌==◌, nat_lt, not, filter}
use Rattle.call_caller.proofs.Common.{filter_map, unwrap_or, AllByRecursion, cons_option, option_map, Offer, Row, State, Idle, Trying, Rung, Ended, Table, FinalAnswer, Answer, numbers_below, Effect, effect, answers, with_state, with_effect}
use Rattle.call_caller.proofs.Common.{change_at, settled_row, settled, next, IsNone, place_of}
use Rattle.std.proofs.Common.{eqb-true}
use Rattle.fork_model.specs.Groups.{falling, is_value, places_of, in_group, numbered_from, numbered}
use Rattle.fork_model.specs.Contacts.{ContactOutcome, Known, Fresh, Left, outcome_of, keys_after, with_outcome, ContactLists, taking_from, taking_at, keys_of, fresh_row, fresh_rows}
use Rattle.fork_model.specs.Waiting.{depth_of}
use Rattle.fork_model.specs.Step.{accepts, redirects, stores}
use Rattle.fork_model.proofs.laws.GroupLemmas.{Below, Falls, falls_falling}
use Rattle.call_caller.specs.NewDestinations.{Apart}

-- ---- lists

all_joined : {X : Type 0} (P : X → Type 0) (xs ys : List X) → AllByRecursion P xs → AllByRecursion P ys → AllByRecursion P (xs ++ ys)
all_joined P [] ys h k = k
all_joined P (x ∷ xs) ys h k = (h.0, all_joined P xs ys h.1 k)

all_as : {X : Type 0} (P Q : X → Type 0) (xs : List X) → ((x : X) → P x → Q x) → AllByRecursion P xs → AllByRecursion Q xs
all_as P Q [] f h = tt
all_as P Q (x ∷ xs) f h = (f x h.0, all_as P Q xs f h.1)

all_filtered : (P : ℕ → Type 0) (p : ℕ → Bool) (xs : List ℕ) → AllByRecursion P xs → AllByRecursion P (filter p xs)
all_filtered P p [] h = tt
all_filtered P p (x ∷ xs) h = go (p x) (all_filtered P p xs h.1)
  where
    go : (b : Bool) → AllByRecursion P (filter p xs) → AllByRecursion P (cond b (x ∷ filter p xs) (filter p xs))
    go true rest = (h.0, rest)
    go false rest = rest

all_pass : (p : ℕ → Bool) (xs : List ℕ) → AllByRecursion (λ x. p x ≡ true) (filter p xs)
all_pass p [] = tt
all_pass p (x ∷ xs) = go (p x) refl (all_pass p xs)
  where
    go : (b : Bool) → p x ≡ b → AllByRecursion (λ x. p x ≡ true) (filter p xs) → AllByRecursion (λ x. p x ≡ true) (cond b (x ∷ filter p xs) (filter p xs))
    go true e rest = (e, rest)
    go false e rest = rest

apart_joined : (xs ys : List ℕ) → Apart xs → Apart ys → AllByRecursion (IsNone ys) xs → Apart (xs ++ ys)
apart_joined [] ys h k d = k
apart_joined (x ∷ xs) ys h k d = (all_joined (λ y. x ≢ y) xs ys h.0 d.0, apart_joined xs ys h.1 k d.1)

apart_filtered : (p : ℕ → Bool) (xs : List ℕ) → Apart xs → Apart (filter p xs)
apart_filtered p [] h = tt
apart_filtered p (x ∷ xs) h = go (p x) (apart_filtered p xs h.1)
  where
    go : (b : Bool) → Apart (filter p xs) → Apart (cond b (x ∷ filter p xs) (filter p xs))
    go true rest = (all_filtered (λ y. x ≢ y) p xs h.0, rest)
    go false rest = rest

-- what passes a test is none of what does not
none_passing : (p : ℕ → Bool) (x : ℕ) (ys : List ℕ) → p x ≡ true → AllByRecursion (λ y. p y ≡ false) ys → IsNone ys x
none_passing p x [] e h = tt
none_passing p x (y ∷ ys) e h = (λ same. absurd (let f : p x ≡ false = ap p same ∙ h.0 in cc), none_passing p x ys e h.1)

-- ---- places in groups

all_below : (n : ℕ) → AllByRecursion (λ k. k < n) (numbers_below n)
all_below zero = tt
all_below (suc n) = all_joined (λ k. k < suc n) (numbers_below n) (n ∷ []) (all_as (λ k. k < n) (λ k. k < suc n) (numbers_below n) (λ k lt. omega arith) (all_below n)) (omega arith, tt)

numbers_apart : (n : ℕ) → Apart (numbers_below n)
numbers_apart zero = tt
numbers_apart (suc n) =
    apart_joined (numbers_below n) (n ∷ []) (numbers_apart n) (tt, tt)
    (all_as (λ k. k < n) (IsNone (n ∷ [])) (numbers_below n) (λ k lt. (λ same. absurd (let e : k ≡ n = same in omega arith), tt)) (all_below n))

abbrev second : ℕ × ℕ → ℕ
second p = p.1

seconds_in_group : (group : ℕ) (places : List ℕ) → map second (in_group group places) ≡ places
seconds_in_group group [] = refl
seconds_in_group group (place ∷ places) = ap (λ (ps : List ℕ). place ∷ ps) (seconds_in_group group places)

map_joined : (f : ℕ × ℕ → ℕ) (xs ys : List (ℕ × ℕ)) → map f (xs ++ ys) ≡ map f xs ++ map f ys
map_joined f [] ys = refl
map_joined f (x ∷ xs) ys = ap (λ (l : List ℕ). f x ∷ l) (map_joined f xs ys)

module _ (qs : List ℕ) where
  abbrev has_q : ℕ → ℕ → Bool
  has_q q place = is_value q (slice_get qs place)

  abbrev places_from : ℕ → List ℕ → List ℕ
  places_from group ds = map second (numbered_from group (map (places_of qs) ds))

  -- the places of one group, and those of the groups behind it
  split_group : (group d : ℕ) (ds : List ℕ) → places_from group (d ∷ ds) ≡ places_of qs d ++ places_from (suc group) ds
  split_group group d ds =
      map_joined second (in_group group (places_of qs d)) (numbered_from (suc group) (map (places_of qs) ds))
      ∙ ap (λ (ps : List ℕ). ps ++ places_from (suc group) ds) (seconds_in_group group (places_of qs d))

  other_q : (d e place : ℕ) (o : Option ℕ) → e < d → is_value e o ≡ true → is_value d o ≡ false
  other_q d e place None lt is = refl
  other_q d e place (Some x) lt is = go (x == d) refl
    where
      go : (b : Bool) → (x == d) ≡ b → (x == d) ≡ false
      go true same = absurd (let at : x ≡ e = eqb-true x e is in let up : x ≡ d = eqb-true x d same in omega arith)
      go false same = same

  -- no place of a lower q has this one
  later_differ : (group d : ℕ) (ds : List ℕ) → Below d ds → AllByRecursion (λ place. has_q d place ≡ false) (places_from group ds)
  later_differ group d [] b = tt
  later_differ group d (e ∷ ds) b =
      let P : List ℕ → Type 0 = λ ps. AllByRecursion (λ place. has_q d place ≡ false) ps in
      subst P (sym (split_group group e ds))
      (all_joined (λ place. has_q d place ≡ false) (places_of qs e) (places_from (suc group) ds)
      (all_as (λ place. has_q e place ≡ true) (λ place. has_q d place ≡ false) (places_of qs e) (λ place is. other_q d e place (slice_get qs place) b.0 is) (all_pass (has_q e) (numbers_below (length qs))))
      (later_differ (suc group) d ds b.1))

  places_apart : (group : ℕ) (ds : List ℕ) → Falls ds → Apart (places_from group ds)
  places_apart group [] f = tt
  places_apart group (d ∷ ds) f =
      let later = later_differ (suc group) d ds f.0 in
      subst Apart (sym (split_group group d ds))
      (apart_joined (places_of qs d) (places_from (suc group) ds)
      (apart_filtered (has_q d) (numbers_below (length qs)) (numbers_apart (length qs)))
      (places_apart (suc group) ds f.1)
      (all_as (λ place. has_q d place ≡ true) (IsNone (places_from (suc group) ds)) (places_of qs d) (λ place is. none_passing (has_q d) place (places_from (suc group) ds) is later) (all_pass (has_q d) (numbers_below (length qs)))))

-- no place is numbered twice
numbered_apart : (qs : List ℕ) → Apart (map second (numbered qs))
numbered_apart qs = places_apart qs 0 (falling qs) (falls_falling qs)

-- ---- contacts that become targets

-- no two of them stand at one place
abbrev OnePlaceEach : List (ℕ × Offer) → Type 0
OnePlaceEach fresh = (i j : ℕ) (f g : ℕ × Offer) → slice_get fresh i ≡ Some f → slice_get fresh j ≡ Some g → f.0 ≡ g.0 → i ≡ j

abbrev From : ℕ → List (ℕ × Offer) → Type 0
From start fresh = (i : ℕ) (f : ℕ × Offer) → slice_get fresh i ≡ Some f → start ≤ f.0

abbrev Rises : ℕ → List (ℕ × Offer) → Type 0
Rises start fresh = From start fresh × OnePlaceEach fresh

rises_first : (start : ℕ) (offer : Offer) (fresh : List (ℕ × Offer)) → Rises (suc start) fresh → Rises start ((start, offer) ∷ fresh)
rises_first start offer fresh (from, one) = (first, each)
  where
    first : From start ((start, offer) ∷ fresh)
    first zero f is = let here : start ≡ f.0 = ap (λ (o : ℕ × Offer). o.0) (let e : (start, offer) ≡ f = cc in e) in omega arith
    first (suc i) f is = let later : suc start ≤ f.0 = from i f is in omega arith

    each : OnePlaceEach ((start, offer) ∷ fresh)
    each zero zero f g is at same = refl
    each zero (suc j) f g is at same =
        absurd (let here : start ≡ f.0 = ap (λ (o : ℕ × Offer). o.0) (let e : (start, offer) ≡ f = cc in e) in let later : suc start ≤ g.0 = from j g at in omega arith)
    each (suc i) zero f g is at same =
        absurd (let here : start ≡ g.0 = ap (λ (o : ℕ × Offer). o.0) (let e : (start, offer) ≡ g = cc in e) in let later : suc start ≤ f.0 = from i f is in omega arith)
    each (suc i) (suc j) f g is at same = ap suc (one i j f g is at same)

rises_later : (start : ℕ) (fresh : List (ℕ × Offer)) → Rises (suc start) fresh → Rises start fresh
rises_later start fresh (from, one) = (λ i f is. let later : suc start ≤ f.0 = from i f is in omega arith, one)

taking_rises : (keys : List (List ℕ)) (start : ℕ) (offers : List Offer) → Rises start (taking_from keys start offers).fresh
taking_rises keys start [] = (λ i f is. absurd cc, λ i j f g is at same. absurd cc)
taking_rises keys start (offer ∷ offers) = go (outcome_of keys offer.key) (λ known. taking_rises known (suc start) offers)
  where
    go : (outcome : ContactOutcome) → ((known : List (List ℕ)) → Rises (suc start) (taking_from known (suc start) offers).fresh)
        → Rises start (with_outcome start offer outcome (taking_from (keys_after keys outcome) (suc start) offers)).fresh
    go Known rest = rises_later start _ (rest _)
    go (Fresh key) rest = rises_first start offer _ (rest _)
    go Left rest = rises_later start _ (rest _)

taken_once : (t : Table) (row : Row) (offers : List Offer) → OnePlaceEach (taking_at t row offers).fresh
taken_once t row offers = go (t.closed || not (nat_lt (depth_of t.rows row) t.rules.depth))
  where
    go : (b : Bool) → OnePlaceEach (cond {A = ContactLists} b (record { fresh = []; left = offers }) (taking_from (keys_of t.rows) 0 offers)).fresh
    go true = λ i j f g is at same. absurd cc
    go false = (taking_rises (keys_of t.rows) 0 offers).1

-- ---- their rows

module _ (n : ℕ) (fresh : List (ℕ × Offer)) (one : OnePlaceEach fresh) where
  abbrev row_at : ℕ × ℕ → Option Row
  row_at p = option_map (λ f. fresh_row n p.0 f) (slice_get fresh p.1)

  rows_none : (i : ℕ) (f : ℕ × Offer) (ps : List (ℕ × ℕ)) → slice_get fresh i ≡ Some f → IsNone (map second ps) i → IsNone (map place_of (filter_map row_at ps)) f.0
  rows_none i f [] is h = tt
  rows_none i f (p ∷ ps) is h = go (slice_get fresh p.1) refl (rows_none i f ps is h.1)
    where
      go : (o : Option (ℕ × Offer)) → slice_get fresh p.1 ≡ o → IsNone (map place_of (filter_map row_at ps)) f.0
          → IsNone (map place_of (cons_option (option_map (λ f. fresh_row n p.0 f) o) (filter_map row_at ps))) f.0
      go None at rest = rest
      go (Some g) at rest = (λ same. h.0 (one i p.1 f g is at same), rest)

  rows_apart : (ps : List (ℕ × ℕ)) → Apart (map second ps) → Apart (map place_of (filter_map row_at ps))
  rows_apart [] h = tt
  rows_apart (p ∷ ps) h = go (slice_get fresh p.1) refl (rows_apart ps h.1)
    where
      go : (o : Option (ℕ × Offer)) → slice_get fresh p.1 ≡ o → Apart (map place_of (filter_map row_at ps))
          → Apart (map place_of (cons_option (option_map (λ f. fresh_row n p.0 f) o) (filter_map row_at ps)))
      go None at rest = rest
      go (Some g) at rest = (rows_none p.1 g ps at h.0, rest)

  fresh_apart : Apart (map place_of (fresh_rows n fresh))
  fresh_apart = rows_apart (numbered (map (λ f. f.1.q) fresh)) (numbered_apart (map (λ f. f.1.q) fresh))

-- ---- an answer

answers_apart : (t : Table) (n : ℕ) (row : Row) (at : ℕ) (answer : FinalAnswer) → Apart (map place_of (answers t n row at answer).fresh)
answers_apart t n row at answer = go (nat_lt answer.status 300) (nat_lt answer.status 400)
  where
    go : (a b : Bool) → Apart (map place_of (cond {A = Effect} a (accepts at) (cond {A = Effect} b (redirects n at answer (taking_at t row answer.offers)) (stores at answer))).fresh)
    go true b = tt
    go false true = fresh_apart n (taking_at t row answer.offers).fresh (taken_once t row answer.offers)
    go false false = tt

length_state : (rows : List Row) (n : ℕ) (state : State) → length (with_state rows n state) ≡ length rows
length_state [] n state = refl
length_state (row ∷ rows) zero state = refl
length_state (row ∷ rows) (suc n) state = ap suc (length_state rows n state)

-- what is behind the first rows, settled
settled_behind : (f : Row → Row) (rows fresh : List Row) (n : ℕ) → length rows ≡ n → drop n (map f (rows ++ fresh)) ≡ map f fresh
settled_behind f [] fresh n e = rw (sym e) refl
settled_behind f (row ∷ rows) fresh n e =
    let more : drop (suc (length rows)) (map f ((row ∷ rows) ++ fresh)) ≡ map f fresh = settled_behind f rows fresh (length rows) refl in
    ap (λ (k : ℕ). drop k (map f ((row ∷ rows) ++ fresh))) (sym e) ∙ more

same_places : (u : Table) (rows : List Row) → map place_of (map (settled_row u) rows) ≡ map place_of rows
same_places u [] = refl
same_places u (row ∷ rows) = ap (λ (ps : List ℕ). row.place ∷ ps) (same_places u rows)

pub drop_all : (rows : List Row) → drop (length rows) rows ≡ []
drop_all [] = refl
drop_all (row ∷ rows) = drop_all rows

effect_apart : (t : Table) (n : ℕ) (e : Option Effect) → ((x : Effect) → e ≡ Some x → Apart (map place_of x.fresh))
    → Apart (map place_of (drop (length t.rows) (unwrap_or (option_map settled (option_map (with_effect t n) e)) t).rows))
effect_apart t n None h = subst (λ (rows : List Row). Apart (map place_of rows)) (sym (drop_all t.rows)) tt
effect_apart t n (Some e) h =
    let u = with_effect t n e in
    let behind : drop (length t.rows) (map (settled_row u) (with_state t.rows n e.state ++ e.fresh)) ≡ map (settled_row u) e.fresh =
    settled_behind (settled_row u) (with_state t.rows n e.state) e.fresh (length t.rows) (length_state t.rows n e.state) in
    subst Apart (sym (ap (map place_of) behind ∙ same_places u e.fresh)) (h e refl)

answer_apart : (t : Table) (row : Row) (at n : ℕ) (answer : FinalAnswer) (state : State) (x : Effect) → effect t row at (Answer n answer) state ≡ Some x → Apart (map place_of x.fresh)
answer_apart t row at n answer Idle x e = absurd cc
answer_apart t row at n answer (Ended end) x e = absurd cc
answer_apart t row at n answer Trying x e = let same : answers t n row at answer ≡ x = cc in subst (λ (y : Effect). Apart (map place_of y.fresh)) same (answers_apart t n row at answer)
answer_apart t row at n answer (Rung cancelled) x e = let same : answers t n row at answer ≡ x = cc in subst (λ (y : Effect). Apart (map place_of y.fresh)) same (answers_apart t n row at answer)

-- the rows that an answer adds
pub added_apart : (t : Table) (n at : ℕ) (answer : FinalAnswer) → Apart (map place_of (drop (length t.rows) (next t (Answer n answer) at).rows))
added_apart t n at answer = by (slice_get t.rows n)
  where
    by : (row : Option Row) → Apart (map place_of (drop (length t.rows) (unwrap_or (option_map settled (change_at t at (Answer n answer) n row)) t).rows))
    by None = subst (λ (rows : List Row). Apart (map place_of rows)) (sym (drop_all t.rows)) tt
    by (Some row) = effect_apart t n (effect t row at (Answer n answer) row.state) (λ x e. answer_apart t row at n answer row.state x e)
