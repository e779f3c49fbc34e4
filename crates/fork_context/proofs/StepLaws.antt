-- One event at a table, case by case: the table after it, and what the reply names.
use Rattle.fork_context.proofs.Common.{◌≡◌, ◌≤◌, ◌<◌, ◌+◌, arith, length-append, ℕ, zero, suc, Bool, true, false, List, [], ◌∷◌, ◌++◌, length, map, Option, Some, None, refl, ap, ◌∙◌, sym, subst, cond, inl, inr, slice_get, slice_get_within, not, ◌&&◌}
use Rattle.fork_context.proofs.Common.{◌||◌, filter, append-nil, length-state, Kind, Row, Table, State, End, Rung, Ended, is_cancelled, is_row, is_invite, Event, numbers_below, Effect, with_state, with_effect, change, closed_state, became}
use Rattle.fork_context.proofs.Common.{has_become, IsInSeries, next_of_stray, Found, found, changed_row, tried, closed_row, IsClosedWhole, is_ringing, gets_cancel, RowRef, effect_of, may_take, not-true, and_left, and_right, number_if, cancelled_at}
use Rattle.fork_context.proofs.Common.{common_steps}
use Rattle.std.proofs.Common.{drop, take, take_all}
use Rattle.std.proofs.lemmas.List.{drop_all}
use Rattle.context_values.specs.declared.reply.Numbers.{Numbers}
use Rattle.fork_context.specs.declared.effect.Effect as declared
use Rattle.fork_context.specs.inner.Change.{cancels}
use Rattle.fork_context.specs.inner.Ready.{Starts}
use Rattle.fork_context.specs.inner.Stepped.{IsStepped, IsSettled}
use Rattle.fork_context.proofs.Effects.{AllIdle, GoesTo, EffectFacts, effect_facts}
use Rattle.fork_context.proofs.ClosingRows.{still_closed, cond_rows}
use Rattle.fork_context.proofs.ForkRows.{row_within}
use Rattle.fork_context.proofs.Numbers.{filter_one}
use Rattle.fork_context.proofs.Replies.{differ, row_of_test, became_none}
use Rattle.fork_context.proofs.StepTaken.{IsChanged, RangBefore, none_starts, none_started, group_starts, group_started, group_cancels, closing_is, closing_starts, closing_cancels, rang_moved, rang_same, idle_not_cancelled}

along : (t : Table) (event : Event) (at : ℕ) (v w : Table) (started cancelled : List ℕ) → w ≡ v → IsStepped t event at v started cancelled
    → IsStepped t event at w started cancelled
along t event at v w started cancelled e h = let P : Table → Type 0 = λ x. IsStepped t event at x started cancelled in subst P (sym e) h

-- ---- nothing changes

same_became : (test : State → Bool) (rows : List Row) → [] ≡ became test rows rows
same_became test rows = sym (became_none test rows rows (λ k row is e. ap (is_row test) is ∙ e))

pub stray_step : (t : Table) (event : Event) (at : ℕ) (started cancelled : List ℕ) → change t event at ≡ None → (started ≡ []) × (cancelled ≡ [])
    → IsStepped t event at t started cancelled
stray_step t event at started cancelled none both = grind (arith, common_steps, next_of_stray, same_became)

pub stray_numbers : {A : Type 0} (t : Table) (event : Event) (at : ℕ) (numbers : Numbers A) → change t event at ≡ None
    → (numbers.rows.items ≡ []) × (numbers.cancelled ≡ 0)
    → IsStepped t event at t (drop numbers.cancelled numbers.rows.items) (take numbers.cancelled numbers.rows.items)
stray_numbers t event at numbers stray none =
    let few : length numbers.rows.items ≤ numbers.cancelled = omega (arith, ap length none.0) in
    stray_step t event at _ _ stray (drop_all numbers.cancelled numbers.rows.items few, take_all numbers.cancelled numbers.rows.items few ∙ none.0)

-- ---- the table closes

closing_step : (t : Table) (event : Event) (at : ℕ) (u v : Table) (started cancelled : List ℕ) → IsChanged t event at u → u.closed ≡ true → RangBefore t.rows u.rows
    → v ≡ record u { closed = true; rows = map (closed_row u.kind) u.rows } → started ≡ []
    → cancelled ≡ filter (gets_cancel u.kind u.rows) (numbers_below (length u.rows)) → IsStepped t event at v started cancelled
closing_step t event at u v started cancelled c done rang is none numbers = grind (arith, common_steps, along, closing_is, closing_starts, closing_cancels)

-- the caller's CANCEL
pub cancel_step : (t : Table) (event : Event) (at : ℕ) (v : Table) (started cancelled : List ℕ) → IsInSeries t → change t event at ≡ Some (record t { closed = true })
    → v ≡ record t { closed = true; rows = map (closed_row t.kind) t.rows } → started ≡ []
    → cancelled ≡ filter (gets_cancel t.kind t.rows) (numbers_below (length t.rows)) → IsStepped t event at v started cancelled
cancel_step t event at v started cancelled series changes is none numbers =
    closing_step t event at (record t { closed = true }) v started cancelled (record { series = series; changes = changes }) refl (rang_same t.rows) is none numbers

-- ---- an effect on row n

record HasEffect (t : Table) (event : Event) (at n : ℕ) (row : Row) (e : Effect) : Type 0 where
  changed : IsChanged t event at (with_effect t n e)
  whole : IsClosedWhole t
  there : slice_get t.rows n ≡ Some row
  facts : EffectFacts t row.state e

-- a row that passes a test now that none passes that has ended was not cancelled before
not_before : (test : State → Bool) → ((end : End) → test (Ended end) ≡ false) → (was new : State) → GoesTo was new → test new ≡ true → is_cancelled was ≡ false
not_before test ended was new goes now = grind arith

and_not : (a b : Bool) → (a ≡ true → b ≡ false) → (a && not b) ≡ a
and_not a b h = grind arith

-- the number of the row that was cancelled, if it was
cancels_one : (rows fresh : List Row) (n : ℕ) (row : Row) (state : State) → slice_get rows n ≡ Some row → AllIdle fresh
    → (is_cancelled state ≡ true → is_cancelled row.state ≡ false)
    → became is_cancelled rows (with_state rows n state ++ fresh) ≡ number_if (is_cancelled state) n
cancels_one rows fresh n row state is waits before =
    let lt : n < length rows = slice_get_within rows n row is in
    filter_one (has_become is_cancelled rows (with_state rows n state ++ fresh)) n (length (with_state rows n state ++ fresh)) (omega (arith, lt, length-append (with_state rows n state) fresh, length-state rows n state)) only
    ∙ (λ i. number_if (is_row is_cancelled (changed_row rows fresh n state row is i) && not (is_row is_cancelled (is i))) n)
    ∙ ap (λ (b : Bool). number_if b n) (and_not (is_cancelled state) (is_cancelled row.state) before)
  where
    go : (k : ℕ) (r : Row) → is_row is_cancelled (slice_get rows k) ≡ false → is_cancelled r.state ≡ true → Found rows fresh n state k r → k ≡ n
    go k r was now (inl h) = absurd (differ (ap (is_row is_cancelled) h ∙ now) was)
    go k r was now (inr (inl h)) = h.0
    go k r was now (inr (inr h)) = absurd (differ now (idle_not_cancelled r.state (waits h.0 r h.1)))

    only : (k : ℕ) → k < length (with_state rows n state ++ fresh) → has_become is_cancelled rows (with_state rows n state ++ fresh) k ≡ true → k ≡ n
    only k lt e =
        let is_now : Bool = is_row is_cancelled (slice_get (with_state rows n state ++ fresh) k) in
        let was : Bool = is_row is_cancelled (slice_get rows k) in
        let now = row_of_test is_cancelled (slice_get (with_state rows n state ++ fresh) k) (and_left is_now (not was) e) in
        go k now.0 (not-true was (and_right is_now (not was) e)) now.2 (found rows fresh n state k now.0 now.1)

-- in a closed table: the state that the row settles in, and whether it is cancelled on the way there
late_state : (kind : Kind) (was state : State) → GoesTo was state → cond (is_ringing state && is_invite kind) (Rung true) state ≡ closed_state kind state
late_state kind was state goes = grind arith

cancels_now : (kind : Kind) (state : State) → ((is_ringing state && is_invite kind) || is_cancelled state) ≡ is_cancelled (closed_state kind state)
cancels_now kind state = grind arith

again : (rows : List Row) (n : ℕ) (a b : State) → with_state (with_state rows n a) n b ≡ with_state rows n b
again [] n a b = refl
again (x ∷ rows) zero a b = refl
again (x ∷ rows) (suc n) a b = ap (λ (rest : List Row). x ∷ rest) (again rows n a b)

late_rows : (rows : List Row) (n : ℕ) (state : State) (b : Bool)
    → cond b (with_state (with_state rows n state) n (Rung true)) (with_state rows n state) ≡ with_state rows n (cond b (Rung true) state)
late_rows rows n state b = grind (arith, common_steps, again)

in_closed : (t : Table) (event : Event) (at n : ℕ) (row : Row) (e : Effect) (v : Table) (started cancelled : List ℕ) → HasEffect t event at n row e
    → t.closed ≡ true → v ≡ cancelled_at n (with_effect t n e) → started ≡ []
    → cancelled ≡ number_if (gets_cancel t.kind (with_effect t n e).rows n || is_cancelled e.state) n → IsStepped t event at v started cancelled
in_closed t event at n row e v started cancelled h done is none numbers =
    let u : Table = with_effect t n e in
    let late : State = closed_state t.kind e.state in
    let of_rows : List Row → Table = λ (rows : List Row). record u { rows = rows } in
    let alone : u.rows ≡ with_state t.rows n e.state =
    ap (λ (more : List Row). with_state t.rows n e.state ++ more) (h.facts.none done) ∙ append-nil (with_state t.rows n e.state) in
    let settled : map (closed_row t.kind) u.rows ≡ with_state t.rows n late =
    ap (map (closed_row t.kind)) alone ∙ still_closed t.kind t.rows n e.state (h.whole done) in
    let gets : gets_cancel t.kind u.rows n ≡ (is_ringing e.state && is_invite t.kind) =
    ap (λ (o : Option Row). is_row is_ringing o && is_invite t.kind) (changed_row t.rows e.fresh n e.state row h.there) in
    let after : v ≡ of_rows (map (closed_row t.kind) u.rows) =
    is ∙ cond_rows (gets_cancel t.kind u.rows n) u (with_state u.rows n (Rung true)) ∙ (λ i. of_rows (cond (gets i) (with_state (alone i) n (Rung true)) (alone i)))
    ∙ ap of_rows (late_rows t.rows n e.state (is_ringing e.state && is_invite t.kind) ∙ ap (with_state t.rows n) (late_state t.kind row.state e.state h.facts.goes) ∙ sym settled) in
    along t event at (of_rows (map (closed_row t.kind) u.rows)) v started cancelled after (record {
      leads = sym (closing_is t event at u h.changed.changes (ap (λ (b : Bool). b || e.closes) done));
      started = none ∙ sym (closing_starts t event at u h.changed);
      cancelled = numbers
          ∙ ap (λ (b : Bool). number_if (b || is_cancelled e.state) n) gets
          ∙ ap (λ (b : Bool). number_if b n) (cancels_now t.kind e.state)
          ∙ sym (ap (became is_cancelled t.rows) (settled ∙ sym (append-nil (with_state t.rows n late)))
          ∙ cancels_one t.rows [] n row late h.there (λ k r at. absurd cc) (not_before (λ s. is_cancelled (closed_state t.kind s)) (λ end. refl) row.state e.state h.facts.goes));
    })

-- the effect closes the table
or_right : (a b : Bool) → a ≡ false → (a || b) ≡ true → b ≡ true
or_right a b e h = grind arith

-- the table stays open
in_open : (t : Table) (event : Event) (at n : ℕ) (row : Row) (e : Effect) (v : Table) (started cancelled : List ℕ) → HasEffect t event at n row e
    → (with_effect t n e).closed ≡ false → Starts (with_effect t n e) v started → cancelled ≡ number_if (is_cancelled e.state) n
    → IsStepped t event at v started cancelled
in_open t event at n row e v started cancelled h still starts numbers = go starts
  where
    named : became is_cancelled t.rows (with_state t.rows n e.state ++ e.fresh) ≡ number_if (is_cancelled e.state) n
    named = cancels_one t.rows e.fresh n row e.state h.there h.facts.waits (not_before is_cancelled (λ end. refl) row.state e.state h.facts.goes)

    go : Starts (with_effect t n e) v started → IsStepped t event at v started cancelled
    go (inl s) = along t event at (with_effect t n e) v started cancelled s.1 (record {
      leads = sym (none_starts t event at (with_effect t n e) h.changed still s.2);
      started = s.0 ∙ sym (none_started t event at (with_effect t n e) h.changed);
      cancelled = numbers ∙ sym named;
    })
    go (inr s) =
        let after : Table = record (with_effect t n e) { rows = tried (with_effect t n e).rows s.0 s.1 } in
        along t event at after v started cancelled s.4 (record {
          leads = sym (group_starts t event at (with_effect t n e) s.0 s.1 h.changed still s.3);
          started = s.2 ∙ sym (group_started t event at (with_effect t n e) s.0 s.1 h.changed s.3);
          cancelled = numbers ∙ sym (group_cancels t.rows (with_effect t n e).rows s.0 s.1 s.3 ∙ named);
        })

settled_by : (t : Table) (event : Event) (at n : ℕ) (row : Row) (e : Effect) (v : Table) (started cancelled : List ℕ) → HasEffect t event at n row e
    → IsSettled n t.closed (is_cancelled e.state) (with_effect t n e) v started cancelled → IsStepped t event at v started cancelled
settled_by t event at n row e v started cancelled h (inl s) = in_closed t event at n row e v started cancelled h s.0 s.1 s.2 s.3
settled_by t event at n row e v started cancelled h (inr (inl s)) =
    closing_step t event at (with_effect t n e) v started cancelled h.changed s.1
    (rang_moved t.rows e.fresh n e.state (h.facts.ends (or_right t.closed e.closes s.0 s.1)) h.facts.waits) s.2 s.3 s.4
settled_by t event at n row e v started cancelled h (inr (inr s)) = in_open t event at n row e v started cancelled h s.1 s.2 s.3

cancels_is : {A : Type 0} (t : Table) (r : RowRef) (at : ℕ) (f : declared.Effect A) → is_cancelled (effect_of t r at f).state ≡ cancels f
cancels_is t r at f = grind arith

-- the row is among those after it
pub still_there : (test : State → Bool) (t u : Table) (n : ℕ) (e : Effect) → is_row test (slice_get t.rows n) ≡ true → u ≡ with_effect t n e → n + 1 ≤ length u.rows
still_there test t u n e there is = grind (arith, common_steps, row_within, there, length-append, length-state)

-- the whole step, from what the functions that take it say
pub row_step : {A : Type 0} (t : Table) (event : Event) (at : ℕ) (r : RowRef) (f : declared.Effect A) (u v : Table) (started cancelled : List ℕ) (was sent : Bool)
    → IsInSeries t → IsClosedWhole t → change t event at ≡ Some (with_effect t r.no (effect_of t r at f)) → is_row (may_take f) (slice_get t.rows r.no) ≡ true
    → u ≡ with_effect t r.no (effect_of t r at f) → was ≡ t.closed → sent ≡ cancels f
    → IsSettled r.no was sent u v started cancelled → IsStepped t event at v started cancelled
row_step t event at r f u v started cancelled was sent series whole changes may made before cancelling settled =
    let row = row_of_test (may_take f) (slice_get t.rows r.no) may in
    let e : Effect = effect_of t r at f in
    let P : Table → Type 0 = λ w. IsSettled r.no was sent w v started cancelled in
    let Q : Bool → Type 0 = λ b. IsSettled r.no was b (with_effect t r.no e) v started cancelled in
    let R : Bool → Type 0 = λ b. IsSettled r.no b (is_cancelled e.state) (with_effect t r.no e) v started cancelled in
    settled_by t event at r.no row.0 e v started cancelled
    (record { changed = record { series = series; changes = changes }; whole = whole; there = row.1; facts = effect_facts t r at f row.0.state row.2 })
    (subst R before (subst Q (cancelling ∙ sym (cancels_is t r at f)) (subst P made settled)))
