-- Where the rows and the stored answers of a table come from.
use Rattle.fork_model.proofs.Common.{◌≡◌, ℕ, zero, suc, ◌+◌, ◌<◌, ◌≤◌, Bool, true, false, List, [], ◌∷◌, ◌++◌, length, map, filter, Option, Some, None, refl, ap, arith, ◌∙◌, sym, subst, cond, inl, inr, ◌⊎◌, slice_get, unwrap_or, filter_map}
use Rattle.fork_model.proofs.Common.{option_map, cons_option, list_all, Kind, Rules, Row, Table, State, Offer, StoredAnswer, stored_of, is_row, Event, FinalAnswer, Ring, Answer, Cancel, numbered, numbers_below, ContactOutcome, Known, Fresh, Left}
use Rattle.fork_model.proofs.Common.{outcome_of, keys_after, with_outcome, ContactLists, taking_from, taking_at, fresh_row, fresh_rows, Effect, effect, answers, with_state, with_effect, change_at, change, cancelled, settled_row, settled, next}
use Rattle.fork_model.proofs.Common.{Target, opening, after, common_steps, rules}
use Rattle.std.proofs.lemmas.Bool.{and_parts, cases_lt}
use Rattle.std.specs.List.{AllByRecursion}
use Rattle.fork_model.specs.Table.{Challenge}
use Rattle.fork_model.specs.Reply.{has_become}
use Rattle.fork_model.specs.Sources.{offers_of, challenges_of, IsRowOf, AddsNoRow, NewRowsAreContacts, IsOneOf, IsStoredBy, HasStored, EventsStoreAnswers, StoredAnswersCame, Passes, StoredAnswersPass, BecameIsExact}
use Rattle.fork_model.proofs.laws.StepLemmas.{rows_keep_numbers}

-- ---- rows of lists

-- a row of two lists in a row is of the first, or stands behind it and is of the second
get_joined : {X : Type 0} (xs ys : List X) (n : ℕ) (y : X) → slice_get (xs ++ ys) n ≡ Some y
    → (slice_get xs n ≡ Some y) ⊎ ((slice_get xs n ≡ None) × (place : ℕ) × (slice_get ys place ≡ Some y))
get_joined [] ys n y is = inr (refl, n, is)
get_joined (x ∷ xs) ys zero y is = inl is
get_joined (x ∷ xs) ys (suc n) y is = get_joined xs ys n y is

-- a row of a list in which one has another state
get_state : (rows : List Row) (m n : ℕ) (state : State) (row : Row) → slice_get (with_state rows m state) n ≡ Some row
    → (slice_get rows n ≡ Some row) ⊎ ((n ≡ m) × (old : Row) × (slice_get rows n ≡ Some old) × (row.state ≡ state))
get_state [] m n state row is = absurd cc
get_state (x ∷ rows) zero zero state row is = grind arith
get_state (x ∷ rows) zero (suc n) state row is = inl is
get_state (x ∷ rows) (suc m) zero state row is = inl is
get_state (x ∷ rows) (suc m) (suc n) state row is = grind (arith, get_state rows m n state row is)

get_mapped : {X Y : Type 0} (f : X → Y) (xs : List X) (n : ℕ) (y : Y) → slice_get (map f xs) n ≡ Some y
    → (x : X) × (slice_get xs n ≡ Some x) × (f x ≡ y)
get_mapped f [] n y is = absurd cc
get_mapped f (x ∷ xs) zero y is = let same : f x ≡ y = cc in (x, refl, same)
get_mapped f (x ∷ xs) (suc n) y is = get_mapped f xs n y is

get_filtered : {X Y : Type 0} (f : X → Option Y) (xs : List X) (n : ℕ) (y : Y) → slice_get (filter_map f xs) n ≡ Some y
    → (x : X) × (f x ≡ Some y)
get_filtered {X} {Y} f [] n y is = absurd cc
get_filtered {X} {Y} f (x ∷ xs) n y is = go (f x) refl n (λ m h. get_filtered f xs m y h) is
  where
    go : (o : Option Y) → f x ≡ o → (n : ℕ) → ((m : ℕ) → slice_get (filter_map f xs) m ≡ Some y → (x : X) × (f x ≡ Some y))
        → slice_get (cons_option o (filter_map f xs)) n ≡ Some y → (x : X) × (f x ≡ Some y)
    go None same n rest is = rest n is
    go (Some z) same zero rest is = let e : z ≡ y = cc in (x, same ∙ ap Some e)
    go (Some z) same (suc n) rest is = rest n is

-- ---- contacts

-- a contact that became a target, of those from this place on
abbrev IsContact : ℕ → List Offer → ℕ × Offer → Type 0
IsContact start offers f = (place : ℕ) × (f.0 ≡ start + place) × (slice_get offers place ≡ Some f.1) × (key : List ℕ) × (f.1.key ≡ Some key)

later_contact : (start : ℕ) (offer : Offer) (offers : List Offer) (f : ℕ × Offer) → IsContact (suc start) offers f → IsContact start (offer ∷ offers) f
later_contact start offer offers f c =
    let e : f.0 ≡ suc start + c.0 = c.1 in (suc c.0, omega (arith, e), c.2, c.3, c.4)

is_fresh : (keys : List (List ℕ)) (key : Option (List ℕ)) (new : List ℕ) → outcome_of keys key ≡ Fresh new → key ≡ Some new
is_fresh keys key new is = grind arith

taken_contacts : (keys : List (List ℕ)) (start : ℕ) (offers : List Offer) (n : ℕ) (f : ℕ × Offer)
    → slice_get (taking_from keys start offers).fresh n ≡ Some f → IsContact start offers f
taken_contacts keys start [] n f is = absurd cc
taken_contacts keys start (offer ∷ offers) n f is =
    go (outcome_of keys offer.key) refl (λ known m h. taken_contacts known (suc start) offers m f h) n is
  where
    go : (outcome : ContactOutcome) → outcome_of keys offer.key ≡ outcome
        → ((known : List (List ℕ)) (m : ℕ) → slice_get (taking_from known (suc start) offers).fresh m ≡ Some f → IsContact (suc start) offers f)
        → (n : ℕ) → slice_get (with_outcome start offer outcome (taking_from (keys_after keys outcome) (suc start) offers)).fresh n ≡ Some f
        → IsContact start (offer ∷ offers) f
    go Known same rest n is = later_contact start offer offers f (rest _ n is)
    go Left same rest n is = later_contact start offer offers f (rest _ n is)
    go (Fresh key) same rest zero is =
        let here : (start, offer) ≡ f = cc in
        let P : ℕ × Offer → Type 0 = λ g. IsContact start (offer ∷ offers) g in
        subst P here (zero, omega arith, refl, key, is_fresh keys offer.key key same)
    go (Fresh key) same rest (suc n) is = later_contact start offer offers f (rest _ n is)

all_later : (offer : Offer) (offers xs : List Offer) → AllByRecursion (IsOneOf offers) xs → AllByRecursion (IsOneOf (offer ∷ offers)) xs
all_later offer offers [] h = tt
all_later offer offers (x ∷ xs) h = ((suc h.0.0, h.0.1), all_later offer offers xs h.1)

pub all_of_itself : (offers : List Offer) → AllByRecursion (IsOneOf offers) offers
all_of_itself [] = tt
all_of_itself (offer ∷ offers) = ((zero, refl), all_later offer offers offers (all_of_itself offers))

left_contacts : (keys : List (List ℕ)) (start : ℕ) (offers : List Offer) → AllByRecursion (IsOneOf offers) (taking_from keys start offers).left
left_contacts keys start [] = tt
left_contacts keys start (offer ∷ offers) = go (outcome_of keys offer.key) (λ known. left_contacts known (suc start) offers)
  where
    go : (outcome : ContactOutcome) → ((known : List (List ℕ)) → AllByRecursion (IsOneOf offers) (taking_from known (suc start) offers).left)
        → AllByRecursion (IsOneOf (offer ∷ offers)) (with_outcome start offer outcome (taking_from (keys_after keys outcome) (suc start) offers)).left
    go Known rest = all_later offer offers _ (rest _)
    go (Fresh key) rest = all_later offer offers _ (rest _)
    go Left rest = ((zero, refl), all_later offer offers _ (rest _))

-- ---- the effect of an event on its row

-- a new row waits, so it has no stored answer
fresh_is_unanswered : (m : ℕ) (fresh : List (ℕ × Offer)) (place : ℕ) (row : Row) → slice_get (fresh_rows m fresh) place ≡ Some row → stored_of row.state ≡ None
fresh_is_unanswered m fresh place row is = grind (arith, get_filtered)

-- its new rows are contacts of the event, and what it stores the event brought
pub record Brings (event : Event) (at n : ℕ) (e : Effect) : Type 0 where
  pub rows : (place : ℕ) (row : Row) → slice_get e.fresh place ≡ Some row → IsRowOf (offers_of event) row
  pub unanswered : (place : ℕ) (row : Row) → slice_get e.fresh place ≡ Some row → stored_of row.state ≡ None
  pub stored : (stored : StoredAnswer) → stored_of e.state ≡ Some stored → IsStoredBy event at n stored

no_rows : (event : Event) (place : ℕ) (row : Row) → slice_get [] place ≡ Some row → IsRowOf (offers_of event) row
no_rows event place row is = absurd cc

-- the rows of the contacts taken
row_of_contact : (n : ℕ) (offers : List Offer) (taking : ContactLists) → ((m : ℕ) (f : ℕ × Offer) → slice_get taking.fresh m ≡ Some f → IsContact 0 offers f)
    → (place : ℕ) (row : Row) → slice_get (fresh_rows n taking.fresh) place ≡ Some row → IsRowOf offers row
row_of_contact n offers taking from place row is =
    let made = get_filtered (λ (p : ℕ × ℕ). option_map (λ (f : ℕ × Offer). fresh_row n p.0 f) (slice_get taking.fresh p.1)) (numbered (map (λ (f : ℕ × Offer). f.1.q) taking.fresh)) place row is in
    go made.0.0 made.0.1 (slice_get taking.fresh made.0.1) refl made.1
  where
    go : (group m : ℕ) (o : Option (ℕ × Offer)) → slice_get taking.fresh m ≡ o → option_map (λ (f : ℕ × Offer). fresh_row n group f) o ≡ Some row → IsRowOf offers row
    go group m None there is = absurd cc
    go group m (Some f) there is =
        let c : IsContact 0 offers f = from m f there in
        let same : fresh_row n group f ≡ row = cc in
        let P : Row → Type 0 = λ r. IsRowOf offers r in
        let at : f.0 ≡ c.0 = omega (arith, c.1) in
        subst P same (record {
          offer = f.1;
          contact = ap (λ (place : ℕ). slice_get offers place) at ∙ c.2;
          key = c.4 ∙ ap Some (sym (ap (λ (k : Option (List ℕ)). unwrap_or k []) c.4));
          q = refl;
        })

taken_at : (t : Table) (row : Row) (offers : List Offer)
    → ((m : ℕ) (f : ℕ × Offer) → slice_get (taking_at t row offers).fresh m ≡ Some f → IsContact 0 offers f)
    × AllByRecursion (IsOneOf offers) (taking_at t row offers).left
taken_at t row offers = grind (arith, all_of_itself, taken_contacts, left_contacts)

answers_bring : (t : Table) (n : ℕ) (row : Row) (at : ℕ) (answer : FinalAnswer) → Brings (Answer n answer) at n (answers t n row at answer)
answers_bring t n row at answer = grind (arith, taken_at, row_of_contact, fresh_is_unanswered)

abbrev MayBring : Event → ℕ → ℕ → Option Effect → Type 0
MayBring event at n None = Unit {0}
MayBring event at n (Some e) = Brings event at n e

ring_brings : (t : Table) (row : Row) (at n status : ℕ) (state : State) → MayBring (Ring n status) at n (effect t row at (Ring n status) state)
ring_brings t row at n status state = grind arith

answer_brings : (t : Table) (row : Row) (at n : ℕ) (answer : FinalAnswer) (state : State) → MayBring (Answer n answer) at n (effect t row at (Answer n answer) state)
answer_brings t row at n answer state = grind (arith, answers_bring)

-- ---- the change of a table

-- where the rows of the table after a change come from
pub record From (event : Event) (at : ℕ) (t u : Table) : Type 0 where
  pub rows : (n : ℕ) (row : Row) → slice_get t.rows n ≡ None → slice_get u.rows n ≡ Some row → IsRowOf (offers_of event) row
  pub stored : (n : ℕ) (stored : StoredAnswer) → HasStored u n stored → HasStored t n stored ⊎ IsStoredBy event at n stored

from_same : (event : Event) (at : ℕ) (t u : Table) → u.rows ≡ t.rows → From event at t u
from_same event at t u same = grind arith

from_effect : (event : Event) (at : ℕ) (t : Table) (n : ℕ) (e : Effect) → Brings event at n e → From event at t (with_effect t n e)
from_effect event at t n e brings = grind (arith, get_joined, get_state)

from_at : (t u : Table) (at : ℕ) (event : Event) (n : ℕ) (row : Option Row)
    → ((row : Row) → MayBring event at n (effect t row at event row.state)) → change_at t at event n row ≡ Some u → From event at t u
from_at t u at event n None brings is = absurd cc
from_at t u at event n (Some row) brings is = go (effect t row at event row.state) (brings row) is
  where
    go : (e : Option Effect) → MayBring event at n e → option_map (with_effect t n) e ≡ Some u → From event at t u
    go None h is = absurd cc
    go (Some e) h is =
        let made : with_effect t n e ≡ u = cc in
        let P : Table → Type 0 = λ v. From event at t v in
        subst P made (from_effect event at t n e h)

from_cancelled : (t u : Table) (at : ℕ) → cancelled t ≡ Some u → From Cancel at t u
from_cancelled t u at is = grind arith

from_change : (t u : Table) (event : Event) (at : ℕ) → change t event at ≡ Some u → From event at t u
from_change t u event at is = grind (arith, from_at, ring_brings, answer_brings, from_cancelled)

-- ---- settling

same_contact : (offers : List Offer) (u : Table) (row : Row) → IsRowOf offers row → IsRowOf offers (settled_row u row)
same_contact offers u row is = record { offer = is.offer; contact = is.contact; key = is.key; q = is.q }

from_settled : (event : Event) (at : ℕ) (t u : Table) → From event at t u → From event at t (settled u)
from_settled event at t u from = grind (arith, get_mapped, same_contact)

next_from : (t : Table) (event : Event) (at : ℕ) → From event at t (next t event at)
next_from t event at = grind (arith, from_same, from_settled, from_change)

-- ---- the laws of rows

pub new_rows_are_contacts : NewRowsAreContacts
new_rows_are_contacts t event at n row none is = (next_from t event at).rows n row none is

none_behind : {X : Type 0} (xs : List X) → slice_get xs (length xs) ≡ None
none_behind [] = refl
none_behind (x ∷ xs) = none_behind xs

some_before : {X : Type 0} (xs : List X) (n : ℕ) → n < length xs → (x : X) × (slice_get xs n ≡ Some x)
some_before [] n lt = absurd (omega arith)
some_before (x ∷ xs) zero lt = (x, refl)
some_before (x ∷ xs) (suc n) lt = some_before xs n (omega arith)

-- a list that is no shorter than another is as long, unless it goes on behind it
as_long : (rows later : List Row) → length rows ≤ length later
    → ((row : Row) → slice_get later (length rows) ≡ Some row → ⊥) → length later ≡ length rows
as_long rows later le never =
    elim (cases_lt (length rows) (length later)) [
      | inl lt ↦ let more = some_before later (length rows) lt in absurd (never more.0 more.1)
      | inr ge ↦ omega (arith, ge)
    ]

pub adds_no_row : AddsNoRow
adds_no_row t event at none =
    as_long t.rows (next t event at).rows (rows_keep_numbers t event at).length
    (λ row is.
    let contact = (next_from t event at).rows (length t.rows) row (none_behind t.rows) is in
    let nothing : slice_get [] row.place ≡ Some contact.offer = ap (λ (offers : List Offer). slice_get offers row.place) (sym none) ∙ contact.contact in
    absurd cc)

-- ---- the laws of stored answers

pub events_store : EventsStoreAnswers
events_store t event at n stored has = (next_from t event at).stored n stored has

-- the event at its arrival stored it, among events from this position on
abbrev CameAt : ℕ → List Event → ℕ → StoredAnswer → Type 0
CameAt at events n stored =
    (place : ℕ) × (stored.arrival ≡ at + place) × (event : Event) × (slice_get events place ≡ Some event) × IsStoredBy event stored.arrival n stored

arrival_of : (event : Event) (at n : ℕ) (stored : StoredAnswer) → IsStoredBy event at n stored → stored.arrival ≡ at
arrival_of event at n stored is = grind arith

came_after : (t : Table) (at : ℕ) (events : List Event) (n : ℕ) (stored : StoredAnswer) → HasStored (after t at events) n stored
    → HasStored t n stored ⊎ CameAt at events n stored
came_after t at [] n stored has = inl has
came_after t at (event ∷ events) n stored has =
    elim (came_after (next t event at) (suc at) events n stored has) [
      | inr later ↦
          let e : stored.arrival ≡ suc at + later.0 = later.1 in
          inr (suc later.0, omega (arith, e), later.2, later.3, later.4)
      | inl now ↦ elim (events_store t event at n stored now) [
        | inl before ↦ inl before
        | inr here ↦
            let when : stored.arrival ≡ at = arrival_of event at n stored here in
            let P : ℕ → Type 0 = λ k. IsStoredBy event k n stored in
            inr (zero, omega (arith, when), event, refl, subst P (sym when) here)
      ]
    ]

-- no initial target has a stored answer
opening_is_unanswered : (kind : Kind) (rules : Rules) (targets : List Target) (n : ℕ) (stored : StoredAnswer) → HasStored (opening kind rules targets) n stored → ⊥
opening_is_unanswered kind rules targets n stored has = grind (arith, get_filtered)

pub answers_came : StoredAnswersCame
answers_came kind rules targets events n stored has =
    elim (came_after (opening kind rules targets) 0 events n stored has) [
      | inl first ↦ absurd (opening_is_unanswered kind rules targets n stored first)
      | inr came ↦
          let e : stored.arrival ≡ came.0 = omega (arith, came.1) in
          (came.2, ap (λ (place : ℕ). slice_get events place) e ∙ came.3, came.4)
    ]

all_from : {X : Type 0} (p : X → Bool) (xs : List X) (place : ℕ) (x : X) → list_all p xs ≡ true → slice_get xs place ≡ Some x → p x ≡ true
all_from p [] place x all is = absurd cc
all_from p (y ∷ xs) zero x all is = grind arith
all_from p (y ∷ xs) (suc place) x all is = all_from p xs place x (and_parts (p y) (list_all p xs) all).1 is

left_pass : (p : Offer → Bool) (offers left : List Offer) → list_all p offers ≡ true → AllByRecursion (IsOneOf offers) left → list_all p left ≡ true
left_pass p offers [] all from = refl
left_pass p offers (offer ∷ left) all from = grind (arith, all_from, left_pass p offers left all from.1)

stored_pass : (p : Offer → Bool) (r : Challenge → Bool) (event : Event) (at n : ℕ) (stored : StoredAnswer)
    → list_all p (offers_of event) ≡ true → list_all r (challenges_of event) ≡ true → IsStoredBy event at n stored → Passes p r stored
stored_pass p r event at n stored ps rs is = grind (arith, left_pass)

pub answers_pass : StoredAnswersPass
answers_pass p r t event at ps rs each n stored has =
    elim (events_store t event at n stored has) [
      | inl before ↦ each n stored before
      | inr here ↦ stored_pass p r event at n stored ps rs here
    ]

-- ---- the rows that a reply names

get_kept : {X : Type 0} (p : X → Bool) (xs : List X) (place : ℕ) (x : X) → slice_get (filter p xs) place ≡ Some x → p x ≡ true
get_kept p [] place x is = absurd cc
get_kept p (y ∷ xs) place x is = go (p y) refl place (λ m h. get_kept p xs m x h) is
  where
    go : (b : Bool) → p y ≡ b → (place : ℕ) → ((m : ℕ) → slice_get (filter p xs) m ≡ Some x → p x ≡ true)
        → slice_get (cond b (y ∷ filter p xs) (filter p xs)) place ≡ Some x → p x ≡ true
    go false h place rest is = rest place is
    go true h zero rest is = let same : y ≡ x = cc in sym (ap p same) ∙ h
    go true h (suc place) rest is = rest place is

kept : {X : Type 0} (p : X → Bool) (xs : List X) (place : ℕ) (x : X) → slice_get xs place ≡ Some x → p x ≡ true
    → (at : ℕ) × (slice_get (filter p xs) at ≡ Some x)
kept p [] place x is h = absurd cc
kept p (y ∷ xs) zero x is h = grind arith
kept p (y ∷ xs) (suc place) x is h =
    let rest = kept p xs place x is h in
    go (p y) rest.0 rest.1
  where
    go : (b : Bool) (at : ℕ) → slice_get (filter p xs) at ≡ Some x → (at : ℕ) × (slice_get (cond b (y ∷ filter p xs) (filter p xs)) at ≡ Some x)
    go true at is = (suc at, is)
    go false at is = (at, is)

get_front : {X : Type 0} (xs ys : List X) (n : ℕ) (x : X) → slice_get xs n ≡ Some x → slice_get (xs ++ ys) n ≡ Some x
get_front [] ys n x is = absurd cc
get_front (y ∷ xs) ys zero x is = is
get_front (y ∷ xs) ys (suc n) x is = get_front xs ys n x is

get_last : {X : Type 0} (xs : List X) (x : X) → slice_get (xs ++ x ∷ []) (length xs) ≡ Some x
get_last [] x = refl
get_last (y ∷ xs) x = get_last xs x

count_below : (count : ℕ) → length (numbers_below count) ≡ count
count_below zero = refl
count_below (suc count) = grind (arith, common_steps, count_below count)

number_there : (count n : ℕ) → n < count → slice_get (numbers_below count) n ≡ Some n
number_there zero n lt = absurd (omega arith)
number_there (suc count) n lt =
    elim (cases_lt n count) [
      | inl less ↦ get_front (numbers_below count) (count ∷ []) n n (number_there count n less)
      | inr ge ↦
          let same : count ≡ n = omega (arith, lt, ge) in
          let P : ℕ → Type 0 = λ m. slice_get (numbers_below count ++ count ∷ []) m ≡ Some count in
          subst P (count_below count ∙ same) (get_last (numbers_below count) count) ∙ ap Some same
    ]

within : (test : State → Bool) (rows : List Row) (n : ℕ) → is_row test (slice_get rows n) ≡ true → n < length rows
within test [] n is = absurd cc
within test (row ∷ rows) zero is = omega arith
within test (row ∷ rows) (suc n) is = let rest : n < length rows = within test rows n is in omega arith

pub became_exact : BecameIsExact
became_exact test old new n = (
  λ among. get_kept (has_become test old new) (numbers_below (length new)) among.0 n among.1,
  λ is.
      let there : n < length new = within test new n (and_parts _ _ is).0 in
      kept (has_become test old new) (numbers_below (length new)) n n (number_there (length new) n there) is,
)
