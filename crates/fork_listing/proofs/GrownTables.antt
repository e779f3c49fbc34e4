-- The rows of every fork, shown as they would be listed, stand as they may.
use Rattle.fork_listing.proofs.Common.{◌≡◌, ℕ, zero, suc, ◌+◌, ◌<◌, ◌≤◌, Bool, true, false, cond, List, [], ◌∷◌, ◌++◌, map, length, Option, Some, None, refl, sym, ap, subst, ◌∙◌, arith, inl, inr, slice_get, option_and_then, not, nat_lt, ◌&&◌}
use Rattle.fork_listing.proofs.Common.{option_map, AllByRecursion, ltb-true, Kind, Rules, Offer, Row, Table, State, Idle, Trying, Rung, Ended, Event, Core, opening_core, core_offered, core_after, End, ListedTarget, arrival_of, is_redirection, IsParent}
use Rattle.fork_listing.proofs.Common.{HasDepth, most_q, IsStatus, targets_from, targets_of, some_same, none_some, slice_get_within, AreArrivals, all_at, looked, mapped, most_targets, ◌≢◌, common_steps, rules}
use Rattle.std.proofs.lemmas.Bool.{ltb-false, or_parts}
use Rattle.fork_model.specs.Table.{Taken, is_invite}
use Rattle.fork_model.specs.Event.{FinalAnswer, Ring, Answer, Timeout, Fault, TimerC, GiveUp, Cancel}
use Rattle.fork_model.specs.Waiting.{parent_row, line_from, depth_of}
use Rattle.fork_model.specs.Contacts.{ContactOutcome, Known, Fresh, Left, ContactLists, outcome_of, keys_after, with_outcome, taking_from, taking_at}
use Rattle.fork_model.specs.Step.{Effect, moves, assumed, received, redirects, effect, answers, change_at, with_state, with_effect, change, next, settled_row, cancelled}
use Rattle.fork_model.specs.History.{Target as Named, opening}
use Rattle.fork_model.proofs.laws.ChangeLemmas.{from_filter_map}
use Rattle.fork_model.proofs.laws.ContactLemmas.{targets_bounded, each_target}
use Rattle.fork_model.proofs.laws.OpeningSeries.{opening_row}
use Rattle.fork_model.proofs.laws.StepLemmas.{rows_keep_numbers}
use Rattle.fork_model.proofs.laws.Arrivals.{next_arrivals, history_of_arrivals}
use Rattle.fork_tree.specs.States.{shown}
use Rattle.fork_tree.specs.declared.row.End.TheVariants as line_end
use Rattle.fork_model.specs.Range.{IsTargetInRange, IsOfferInRange, IsEventInRange}
use Rattle.fork_listing.specs.Listed.{state_shown}
use Rattle.fork_listing.proofs.FallingRows.{fall_at, fresh_fall, opening_fall}
use Rattle.fork_listing.proofs.Growing.{IsKept, IsGrown, with_end, grows, waits_on}

-- ---- a row as it would be listed

abbrev pub seen : State → End
seen state = state_shown (shown state)

abbrev pub line_at : ℕ → Row → ListedTarget
line_at n row = record { number = n; parent = row.parent; q = row.q; end = seen row.state }

pub line_get : (k : ℕ) (rows : List Row) (n m : ℕ) → m ≡ k + n → slice_get (targets_from k rows) n ≡ option_map (line_at m) (slice_get rows n)
line_get k [] n m e = refl
line_get k (x ∷ rows) zero m e = let at : k ≡ m = omega arith in ap (λ i. Some (line_at i x)) at
line_get k (x ∷ rows) (suc n) m e = line_get (suc k) rows n m (omega arith)

pub get_row : (k : ℕ) (rows : List Row) (n : ℕ) (target : ListedTarget) → slice_get (targets_from k rows) n ≡ Some target → (row : Row) × (slice_get rows n ≡ Some row) × (target ≡ line_at (k + n) row)
get_row k rows n target is = mapped (line_at (k + n)) (slice_get rows n) (sym (line_get k rows n (k + n) refl) ∙ is)

pub listed_row : (rows : List Row) (n : ℕ) (row : Row) → slice_get rows n ≡ Some row → slice_get (targets_of rows) n ≡ Some (line_at n row)
listed_row rows n row is = line_get 0 rows n n (omega arith) ∙ ap (option_map (line_at n)) is

pub row_listed : (rows : List Row) (n : ℕ) (target : ListedTarget) → slice_get (targets_of rows) n ≡ Some target → (row : Row) × (slice_get rows n ≡ Some row) × (target ≡ line_at n row)
row_listed rows n target is = mapped (line_at n) (slice_get rows n) (sym (line_get 0 rows n n (omega arith)) ∙ is)

pub length-targets : (k : ℕ) (rows : List Row) → length (targets_from k rows) ≡ length rows
length-targets k [] = refl
length-targets k (row ∷ rows) = ap suc (length-targets (suc k) rows)

-- ---- settling ends no branch but one that waits

settled_from : (t : Table) (k : ℕ) (rows : List Row) → targets_from k (map (settled_row t) rows) ≡ targets_from k rows
settled_from t k [] = refl
settled_from t k (row ∷ rows) = grind (arith, settled_from t (suc k) rows)

-- ---- the change of one row, and rows behind

more_from : (k : ℕ) (rows fresh : List Row) → targets_from k (rows ++ fresh) ≡ targets_from k rows ++ targets_from (k + length rows) fresh
more_from k [] fresh = let at : k ≡ k + 0 = omega arith in ap (λ m. targets_from m fresh) at
more_from k (row ∷ rows) fresh = grind (arith, more_from (suc k) rows fresh)

changed_from : (k : ℕ) (rows fresh : List Row) (n : ℕ) (state : State)
    → targets_from k (with_state rows n state ++ fresh) ≡ with_end (targets_from k rows) n (seen state) ++ targets_from (k + length rows) fresh
changed_from k [] fresh n state = more_from k [] fresh
changed_from k (row ∷ rows) fresh zero state = grind (arith, more_from)
changed_from k (row ∷ rows) fresh (suc n) state = grind (arith, changed_from (suc k) rows fresh n state)

-- ---- how deep a row stands

shallower : (most_depth at : ℕ) (targets : List ListedTarget) → IsGrown most_depth targets at → (n : ℕ) (parent : Option ℕ) (deep : ℕ) → IsParent targets n parent → HasDepth targets parent deep → deep ≤ n
shallower most_depth at targets grown n None zero under h = omega arith
shallower most_depth at targets grown n (Some p) (suc deep) under h =
    omega (arith, under.0, shallower most_depth at targets grown p h.0.parent deep (grown.placed p h.0 h.1).parent h.2)
shallower most_depth at targets grown n parent deep under h = absurd h

depth_seen : (rows : List Row) (deep steps : ℕ) (parent : Option ℕ) → HasDepth (targets_of rows) parent deep → deep ≤ steps → length (line_from steps rows (parent_row rows parent)) ≡ deep
depth_seen rows zero zero None h le = refl
depth_seen rows zero (suc steps) None h le = refl
depth_seen rows (suc deep) zero (Some p) h le = absurd (omega arith)
depth_seen rows (suc deep) (suc steps) (Some p) h le =
    let r = row_listed rows p h.0 h.1 in
    let has : HasDepth (targets_of rows) r.0.parent deep = subst (λ (x : ListedTarget). HasDepth (targets_of rows) x.parent deep) r.2 h.2 in
    ap (λ (o : Option Row). length (line_from (suc steps) rows o)) r.1 ∙ ap suc (depth_seen rows deep steps r.0.parent has (omega arith))
depth_seen rows deep steps parent h le = absurd h

-- ---- what an event does to the row that it names

record IsEnding (t : Table) (n at : ℕ) (row : Row) (state : State) (e : Effect) : Type 0 where
  open_yet : seen state ≡ line_end.Never
  arrival : (a : ℕ) → arrival_of (seen e.state) ≡ Some a → a ≡ at
  keeps : IsKept (seen e.state)
  parent : (k : ℕ) (f : Row) → slice_get e.fresh k ≡ Some f → f.parent ≡ Some n
  waits : (k : ℕ) (f : Row) → slice_get e.fresh k ≡ Some f → f.state ≡ Idle
  small : (k : ℕ) (f : Row) → slice_get e.fresh k ≡ Some f → f.q ≤ most_q
  redirects : (k : ℕ) (f : Row) → slice_get e.fresh k ≡ Some f → is_redirection (seen e.state) ≡ true
  shallow : (k : ℕ) (f : Row) → slice_get e.fresh k ≡ Some f → depth_of t.rows row < t.rules.depth
  falls : (j k : ℕ) (f g : Row) → j < k → slice_get e.fresh j ≡ Some f → slice_get e.fresh k ≡ Some g → g.q ≤ f.q

abbrev MayEnd : Table → ℕ → ℕ → Row → State → Option Effect → Type 0
MayEnd t n at row state None = Unit {0}
MayEnd t n at row state (Some e) = IsEnding t n at row state e

ends_alone : (t : Table) (n at : ℕ) (row : Row) (state new : State) (closes : Bool) → seen state ≡ line_end.Never → ((a : ℕ) → arrival_of (seen new) ≡ Some a → a ≡ at) → IsKept (seen new)
    → IsEnding t n at row state (record { state = new; fresh = []; closes = closes })
ends_alone t n at row state new closes open_yet arrival keeps = grind (arith, common_steps, none_some)

arrives : (at a : ℕ) → Some at ≡ Some a → a ≡ at
arrives at a e = sym (some_same e)

never_arrives : (at a : ℕ) → None ≡ Some a → a ≡ at
never_arrives at a e = absurd (none_some e)

redirected_by : (b : Bool) (at : ℕ) (answer : FinalAnswer) (left : List Offer) → IsStatus answer.status → nat_lt answer.status 400 ≡ true
    → ((a : ℕ) → arrival_of (seen (Ended (cond b (Taken at) (received answer.status at left answer.challenges)))) ≡ Some a → a ≡ at)
    × IsKept (seen (Ended (cond b (Taken at) (received answer.status at left answer.challenges))))
    × (is_redirection (seen (Ended (cond b (Taken at) (received answer.status at left answer.challenges)))) ≡ true)
redirected_by b at answer left low high = grind arith

-- the contacts taken are some of those offered
abbrev FreshSmall : List (ℕ × Offer) → Type 0
FreshSmall fresh = AllByRecursion (λ (f : ℕ × Offer). f.1.q ≤ most_q) fresh

taken_small : (keys : List (List ℕ)) (place : ℕ) (offers : List Offer) → AllByRecursion IsOfferInRange offers → FreshSmall (taking_from keys place offers).fresh
taken_small keys place [] small = tt
taken_small keys place (offer ∷ offers) small = go (outcome_of keys offer.key) _ (taken_small (keys_after keys (outcome_of keys offer.key)) (suc place) offers small.1)
  where
    go : (outcome : ContactOutcome) (rest : ContactLists) → FreshSmall rest.fresh → FreshSmall (with_outcome place offer outcome rest).fresh
    go Known rest all = all
    go (Fresh key) rest all = (small.0, all)
    go Left rest all = all

redirects_ends : (t : Table) (n : ℕ) (row : Row) (at : ℕ) (answer : FinalAnswer) (state : State) → seen state ≡ line_end.Never → IsEventInRange (Answer n answer) → IsStatus answer.status → nat_lt answer.status 400 ≡ true
    → IsEnding t n at row state (redirects n at answer (taking_at t row answer.offers))
redirects_ends t n row at answer state open_yet in_range low high = grind (arith, common_steps, redirected_by, fall_at, fresh_fall, taken_small, from_filter_map, mapped, all_at, none_some, or_parts, ltb-true)

answers_end : (t : Table) (n : ℕ) (row : Row) (at : ℕ) (answer : FinalAnswer) (state : State) → seen state ≡ line_end.Never → IsEventInRange (Answer n answer) → IsEnding t n at row state (answers t n row at answer)
answers_end t n row at answer state open_yet in_range = grind (arith, common_steps, arrives at, redirects_ends t n row at answer state open_yet, ends_alone, ltb-false)

assumed_ends : (t : Table) (n at : ℕ) (row : Row) (state : State) (status : ℕ) → seen state ≡ line_end.Never → IsKept (seen (assumed status at).state)
    → IsEnding t n at row state (assumed status at)
assumed_ends t n at row state status open_yet keeps = ends_alone t n at row state _ false open_yet (arrives at) keeps

rings : (t : Table) (n at : ℕ) (row : Row) (state : State) (cancelled : Bool) → seen state ≡ line_end.Never → IsEnding t n at row state (moves (Rung cancelled))
rings t n at row state cancelled open_yet = ends_alone t n at row state (Rung cancelled) false open_yet (never_arrives at) tt

-- the number of the row that an event names
abbrev named : Event → ℕ
named (Ring n status) = n
named (Answer n answer) = n
named (Timeout n) = n
named (Fault n) = n
named (TimerC n) = n
named (GiveUp n) = n
named Cancel = 0

effect_ends : (t : Table) (row : Row) (at : ℕ) (event : Event) (state : State) → IsEventInRange event → MayEnd t (named event) at row state (effect t row at event state)
effect_ends t row at event Idle in_range = tt
effect_ends t row at event (Ended end) in_range = tt
effect_ends t row at (Ring m status) Trying in_range = rings t m at row Trying false refl
effect_ends t row at (Answer m answer) state in_range = answers_end t m row at answer state refl in_range
effect_ends t row at (Timeout m) state in_range = assumed_ends t m at row state 408 refl ((omega arith, omega arith), inl refl)
effect_ends t row at (Fault m) state in_range = assumed_ends t m at row state 503 refl ((omega arith, omega arith), inr refl)
effect_ends t row at (TimerC m) Trying in_range = grind arith
effect_ends t row at (TimerC m) (Rung cancelled) in_range = grind arith
effect_ends t row at (GiveUp m) (Rung cancelled) in_range = grind arith
effect_ends t row at event state in_range = tt

-- ---- one event at a table

abbrev pub IsGrownTable : Table → ℕ → Type 0
IsGrownTable t at = IsGrown t.rules.depth (targets_of t.rows) at

abbrev MayGrow : Table → ℕ → Option Table → Type 0
MayGrow t at None = Unit {0}
MayGrow t at (Some u) = IsGrown u.rules.depth (targets_of u.rows) (suc at) × (u.rules ≡ t.rules)

ending_grows : (t : Table) (n at : ℕ) (row : Row) (e : Effect) → IsGrownTable t at → slice_get t.rows n ≡ Some row → IsEnding t n at row row.state e
    → IsGrown t.rules.depth (targets_of (with_state t.rows n e.state ++ e.fresh)) (suc at)
ending_grows t n at row e grown is ends =
    let here = listed_row t.rows n row is in
    let same : targets_of (with_state t.rows n e.state ++ e.fresh) ≡ with_end (targets_of t.rows) n (seen e.state) ++ targets_from (0 + length t.rows) e.fresh = changed_from 0 t.rows e.fresh n e.state in
    subst (λ (ts : List ListedTarget). IsGrown t.rules.depth ts (suc at)) (sym same) (grows grown (record {
      there = here;
      open_yet = ends.open_yet;
      arrival = ends.arrival;
      keeps = ends.keeps;
      number = number;
      parent = λ k f there. let r = get_row (0 + length t.rows) e.fresh k f there in ap (λ (x : ListedTarget). x.parent) r.2 ∙ ends.parent k r.0 r.1;
      small = λ k f there. let r = get_row (0 + length t.rows) e.fresh k f there in subst (λ (x : ListedTarget). x.q ≤ most_q) (sym r.2) (ends.small k r.0 r.1);
      waits = λ k f there. let r = get_row (0 + length t.rows) e.fresh k f there in ap (λ (x : ListedTarget). x.end) r.2 ∙ ap seen (ends.waits k r.0 r.1);
      redirects = λ k f there. let r = get_row (0 + length t.rows) e.fresh k f there in ends.redirects k r.0 r.1;
      shallow = λ k f there deep has. let r = get_row (0 + length t.rows) e.fresh k f there in shallow deep has (ends.shallow k r.0 r.1);
      falls = falls;
    }))
  where
    number : (k : ℕ) (f : ListedTarget) → slice_get (targets_from (0 + length t.rows) e.fresh) k ≡ Some f → f.number ≡ length (targets_of t.rows) + k
    number k f there =
        let r = get_row (0 + length t.rows) e.fresh k f there in
        omega (arith, ap (λ (x : ListedTarget). x.number) r.2, length-targets 0 t.rows)

    shallow : (deep : ℕ) → HasDepth (targets_of t.rows) row.parent deep → depth_of t.rows row < t.rules.depth → suc deep ≤ t.rules.depth
    shallow deep has lt =
        let placed = grown.placed n (line_at n row) (listed_row t.rows n row is) in
        let below : deep ≤ n = shallower t.rules.depth at (targets_of t.rows) grown n row.parent deep placed.parent has in
        let within = slice_get_within t.rows n row is in
        let same : depth_of t.rows row ≡ deep = depth_seen t.rows deep (length t.rows) row.parent has (omega arith) in
        omega arith

    falls : (j k : ℕ) (f g : ListedTarget) → j < k → slice_get (targets_from (0 + length t.rows) e.fresh) j ≡ Some f → slice_get (targets_from (0 + length t.rows) e.fresh) k ≡ Some g → g.q ≤ f.q
    falls j k f g lt a b =
        let r = get_row (0 + length t.rows) e.fresh j f a in
        let s = get_row (0 + length t.rows) e.fresh k g b in
        omega (arith, ends.falls j k r.0 s.0 lt r.1 s.1, ap (λ (z : ListedTarget). z.q) r.2, ap (λ (z : ListedTarget). z.q) s.2)

effect_grows : (t : Table) (at n : ℕ) (row : Row) → IsGrownTable t at → slice_get t.rows n ≡ Some row → (e : Option Effect) → MayEnd t n at row row.state e → MayGrow t at (option_map (with_effect t n) e)
effect_grows t at n row grown is e ends = grind (arith, ending_grows)

change_at_grows : (t : Table) (at : ℕ) (event : Event) → IsEventInRange event → IsGrownTable t at → MayGrow t at (change_at t at event (named event) (slice_get t.rows (named event)))
change_at_grows t at event in_range grown = grind (arith, effect_grows, effect_ends)

cancelled_grows : (t : Table) (at : ℕ) (b : Bool) → IsGrownTable t at → MayGrow t at (cond b (Some (record t { closed = true })) None)
cancelled_grows t at b grown = grind arith

change_grows : (t : Table) (event : Event) (at : ℕ) → IsEventInRange event → IsGrownTable t at → MayGrow t at (change t event at)
change_grows t Cancel at in_range grown = cancelled_grows t at (is_invite t.kind && not t.closed) grown
change_grows t event at in_range grown = change_at_grows t at event in_range grown

pub next_grows : (t : Table) (event : Event) (at : ℕ) → IsEventInRange event → IsGrownTable t at → IsGrownTable (next t event at) (suc at) × ((next t event at).rules ≡ t.rules)
next_grows t event at in_range grown = grind (arith, change_grows, waits_on, settled_from)

-- ---- the opening table

pub opening_grown : (kind : Kind) (rules : Rules) (targets : List Named) → AllByRecursion IsTargetInRange targets → IsGrownTable (opening kind rules targets) 0
opening_grown kind rules targets in_range = grind (arith, common_steps, all_at IsTargetInRange targets, opening_fall targets, row_listed, opening_row, looked, none_some, from_filter_map, mapped, option_and_then, fall_at)

-- ---- every history

pub record IsGrownCore (rules : Rules) (core : Core) : Type 0 where
  pub grown : IsGrownTable core.table core.taken
  pub ruled : core.table.rules ≡ rules
  pub arrivals : AreArrivals core.table.rows core.taken
  pub some : 1 ≤ length core.table.rows
  pub few : length core.table.rows ≤ most_targets

offered_grows : (rules : Rules) (core : Core) (event : Event) → IsEventInRange event → IsGrownCore rules core → IsGrownCore rules (core_offered core event)
offered_grows rules core event in_range h = grind (arith, next_grows, rows_keep_numbers, next_arrivals, targets_bounded)

pub after_grows : (rules : Rules) (core : Core) (events : List Event) → AllByRecursion IsEventInRange events → IsGrownCore rules core → IsGrownCore rules (core_after core events)
after_grows rules core [] in_range h = h
after_grows rules core (event ∷ events) in_range h = after_grows rules (core_offered core event) events in_range.1 (offered_grows rules core event in_range.0 h)

some_length : (targets : List Named) → targets ≢ [] → 1 ≤ length targets
some_length targets some = grind (arith, common_steps)

pub history_grows : (kind : Kind) (rules : Rules) (targets : List Named) (events : List Event) → targets ≢ [] → length targets ≤ most_targets → AllByRecursion IsTargetInRange targets → AllByRecursion IsEventInRange events
    → IsGrownCore rules (core_after (opening_core kind rules targets) events)
history_grows kind rules targets events some few small in_range = grind (arith, common_steps, each_target kind rules targets, some_length targets some, after_grows rules (opening_core kind rules targets) events, opening_grown kind rules targets small, history_of_arrivals kind rules targets [])
