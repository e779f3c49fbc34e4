-- One event at a table: what it changes, what settling then changes, and what the reply names.
use Rattle.fork_context.proofs.Common.{◌≡◌, ℕ, zero, suc, ◌+◌, ◌<◌, ◌≤◌, Bool, true, false, List, [], ◌∷◌, ◌++◌, length, map, Option, Some, refl, ap, arith, ◌∙◌, sym, inl, inr, ◌⊎◌, slice_get, not, ◌&&◌, filter, option_map, slice_get-map, length-map}
use Rattle.fork_context.proofs.Common.{Kind, Row, Table, State, Idle, Trying, Rung, Ended, is_idle, is_trying, is_cancelled, is_ended, is_row, is_invite, Event, numbers_below, may_start, with_state, change, closed_state, next, has_become, became}
use Rattle.fork_context.proofs.Common.{IsInSeries, next_of_change, may_start_facts, Found, found, OneGroup, IsReady, tried, numbers_from, closed_row, is_ringing, common_steps}
use Rattle.std.proofs.Math.Bool.{and-true}
use Rattle.fork_model.proofs.laws.StepLemmas.{Onward, change_advances}
use Rattle.fork_model.proofs.laws.ChangeLemmas.{IsMove, IsClosing, change_is}
use Rattle.fork_model.proofs.laws.SeriesLemmas.{one_group_changed, tried_before, idle_before}
use Rattle.fork_context.proofs.Settling.{settled_none, settled_group}
use Rattle.fork_context.proofs.Numbers.{filter_same}
use Rattle.fork_context.proofs.Replies.{differ, became_none, became_range, tried_in, tried_found, length-tried}
use Rattle.fork_context.proofs.ClosingRows.{settled_closed}

-- ---- an event that changes a table by settling alone after its own change

-- the table that an event changed, before it is settled
pub record IsChanged (t : Table) (event : Event) (at : ℕ) (u : Table) : Type 0 where
  pub series : IsInSeries t
  pub changes : change t event at ≡ Some u

moved : (t : Table) (event : Event) (at : ℕ) (u : Table) → IsChanged t event at u → (IsMove t u) ⊎ (IsClosing t u)
moved t event at u c = change_is t u event at c.changes

onward : (t : Table) (event : Event) (at : ℕ) (u : Table) → IsChanged t event at u → Onward t u
onward t event at u c = (change_advances t u event at c.changes).onward

-- what is tried after the event's own change was tried before it
was_tried : (t : Table) (event : Event) (at : ℕ) (u : Table) → IsChanged t event at u
    → (k : ℕ) (row : Row) → slice_get u.rows k ≡ Some row → is_trying row.state ≡ true → is_row is_trying (slice_get t.rows k) ≡ true
was_tried t event at u c k row is now = go (is_row is_trying (slice_get t.rows k)) refl
  where
    go : (b : Bool) → is_row is_trying (slice_get t.rows k) ≡ b → is_row is_trying (slice_get t.rows k) ≡ true
    go true e = e
    go false e = absurd (differ now (tried_before t u (moved t event at u c) k row is e))

-- ---- the table stays open

pub one_group_of : (t : Table) (event : Event) (at : ℕ) (u : Table) → IsChanged t event at u → u.closed ≡ false → OneGroup u.rows
one_group_of t event at u c still = one_group_changed t u (onward t event at u c) (moved t event at u c) c.series still

pub none_starts : (t : Table) (event : Event) (at : ℕ) (u : Table) → IsChanged t event at u → u.closed ≡ false
    → ((k : ℕ) (row : Row) → slice_get u.rows k ≡ Some row → may_start u.rows row ≡ false) → next t event at ≡ u
none_starts t event at u c still none = next_of_change t u event at c.changes ∙ settled_none u still none

pub none_started : (t : Table) (event : Event) (at : ℕ) (u : Table) → IsChanged t event at u → became is_trying t.rows u.rows ≡ []
none_started t event at u c = became_none is_trying t.rows u.rows (was_tried t event at u c)

pub group_starts : (t : Table) (event : Event) (at : ℕ) (u : Table) (first count : ℕ) → IsChanged t event at u → u.closed ≡ false
    → IsReady u.rows first count → next t event at ≡ record u { rows = tried u.rows first count }
group_starts t event at u first count c still ready = grind (arith, common_steps, next_of_change, settled_group, one_group_of)

-- a row of a group that starts waited till then
ready_idle : (rows : List Row) (first count : ℕ) → IsReady rows first count → (k : ℕ) (row : Row) → first ≤ k → k < first + count
    → slice_get rows k ≡ Some row → is_idle row.state ≡ true
ready_idle rows first count ready k row lo hi is = (may_start_facts rows row (ready.ready k row lo hi is)).idle

pub some_row : (rows : List Row) (k : ℕ) → k < length rows → (row : Row) × (slice_get rows k ≡ Some row)
some_row [] k lt = absurd (omega arith)
some_row (row ∷ rows) zero lt = (row, refl)
some_row (row ∷ rows) (suc k) lt = some_row rows k (omega arith)

pub group_started : (t : Table) (event : Event) (at : ℕ) (u : Table) (first count : ℕ) → IsChanged t event at u → IsReady u.rows first count
    → became is_trying t.rows (tried u.rows first count) ≡ numbers_from first count
group_started t event at u first count c ready =
    let within : first + count ≤ length u.rows = ready.within in
    let same : length (tried u.rows first count) ≡ length u.rows = length-tried u.rows first count in
    became_range is_trying t.rows (tried u.rows first count) first count (omega arith) all only
  where
    all : (k : ℕ) → first ≤ k → k < first + count
        → (is_row is_trying (slice_get (tried u.rows first count) k) ≡ true) × (is_row is_trying (slice_get t.rows k) ≡ false)
    all k lo hi =
        let within : first + count ≤ length u.rows = ready.within in
        let row = some_row u.rows k (omega arith) in (
          ap (is_row is_trying) (tried_in u.rows first count k row.0 row.1 lo hi),
          idle_before t.rows u.rows k row.0 (onward t event at u c).rows row.1 (ready_idle u.rows first count ready k row.0 lo hi row.1),
        )

    only : (k : ℕ) (row : Row) → slice_get (tried u.rows first count) k ≡ Some row → is_trying row.state ≡ true
        → is_row is_trying (slice_get t.rows k) ≡ false → (first ≤ k) × (k < first + count)
    only k row is now before = go (tried_found u.rows first count k row is)
      where
        go : (slice_get u.rows k ≡ Some row) ⊎ ((first ≤ k) × (k < first + count) × (row.state ≡ Trying)) → (first ≤ k) × (k < first + count)
        go (inl h) = absurd (differ (was_tried t event at u c k row h now) before)
        go (inr h) = (h.0, h.1)

pub idle_not_cancelled : (state : State) → is_idle state ≡ true → is_cancelled state ≡ false
idle_not_cancelled state e = grind arith

-- a group that starts cancels nothing
pub group_cancels : (old rows : List Row) (first count : ℕ) → IsReady rows first count
    → became is_cancelled old (tried rows first count) ≡ became is_cancelled old rows
group_cancels old rows first count ready =
    ap (λ (n : ℕ). filter (has_become is_cancelled old (tried rows first count)) (numbers_below n)) (length-tried rows first count)
    ∙ filter_same (has_become is_cancelled old (tried rows first count)) (has_become is_cancelled old rows) (length rows) same
  where
    same : (k : ℕ) → k < length rows → has_become is_cancelled old (tried rows first count) k ≡ has_become is_cancelled old rows k
    same k lt =
        let was = some_row rows k lt in
        let longer : length (tried rows first count) ≡ length rows = length-tried rows first count in
        let now = some_row (tried rows first count) k (omega arith) in
        ap (λ (b : Bool). b && not (is_row is_cancelled (slice_get old k)))
        (ap (is_row is_cancelled) now.1 ∙ go was.0 now.0 was.1 (tried_found rows first count k now.0 now.1) ∙ sym (ap (is_row is_cancelled) was.1))
      where
        go : (was now : Row) → slice_get rows k ≡ Some was → (slice_get rows k ≡ Some now) ⊎ ((first ≤ k) × (k < first + count) × (now.state ≡ Trying))
            → is_cancelled now.state ≡ is_cancelled was.state
        go was now is (inl h) = let same : now ≡ was = cc in ap (λ (r : Row). is_cancelled r.state) same
        go was now is (inr h) = ap is_cancelled h.2 ∙ sym (idle_not_cancelled was.state (ready_idle rows first count ready k was h.0 h.1 is))

-- ---- the table closes

pub closing_is : (t : Table) (event : Event) (at : ℕ) (u : Table) → change t event at ≡ Some u → u.closed ≡ true
    → next t event at ≡ record u { rows = map (closed_row u.kind) u.rows }
closing_is t event at u is done = next_of_change t u event at is ∙ settled_closed u done

closed_trying : (kind : Kind) (state : State) → is_trying (closed_state kind state) ≡ is_trying state
closed_trying kind state = grind arith

row_before : (kind : Kind) (o : Option Row) (row : Row) → option_map (closed_row kind) o ≡ Some row → (r : Row) × (o ≡ Some r) × (closed_row kind r ≡ row)
row_before kind o row e = grind arith

pub closing_starts : (t : Table) (event : Event) (at : ℕ) (u : Table) → IsChanged t event at u
    → became is_trying t.rows (map (closed_row u.kind) u.rows) ≡ []
closing_starts t event at u c = grind (arith, common_steps, became_none, row_before, slice_get-map, was_tried, closed_trying)

-- each row that has rung had rung before, and its CANCEL is the same
abbrev pub RangBefore : List Row → List Row → Type 0
RangBefore old rows = (k : ℕ) (row : Row) (cancelled : Bool) → slice_get rows k ≡ Some row → row.state ≡ Rung cancelled → is_row is_cancelled (slice_get old k) ≡ cancelled

pub closing_cancels : (old rows : List Row) (kind : Kind) → RangBefore old rows
    → became is_cancelled old (map (closed_row kind) rows) ≡ filter (λ k. is_row is_ringing (slice_get rows k) && is_invite kind) (numbers_below (length rows))
closing_cancels old rows kind rang =
    ap (λ (n : ℕ). filter (has_become is_cancelled old (map (closed_row kind) rows)) (numbers_below n)) (length-map rows (closed_row kind))
    ∙ filter_same (has_become is_cancelled old (map (closed_row kind) rows)) (λ k. is_row is_ringing (slice_get rows k) && is_invite kind) (length rows) same
  where
    by_state : (k : ℕ) (state : State) → ((b : Bool) → state ≡ Rung b → is_row is_cancelled (slice_get old k) ≡ b)
        → (is_cancelled (closed_state kind state) && not (is_row is_cancelled (slice_get old k))) ≡ (is_ringing state && is_invite kind)
    by_state k Idle h = refl
    by_state k Trying h = refl
    by_state k (Ended end) h = refl
    by_state k (Rung true) h = ap (λ (b : Bool). not b) (h true refl)
    by_state k (Rung false) h = ap (λ (b : Bool). is_invite kind && not b) (h false refl) ∙ and-true (is_invite kind)

    same : (k : ℕ) → k < length rows → has_become is_cancelled old (map (closed_row kind) rows) k ≡ (is_row is_ringing (slice_get rows k) && is_invite kind)
    same k lt =
        let row = some_row rows k lt in
        let now : slice_get (map (closed_row kind) rows) k ≡ Some (closed_row kind row.0) =
        slice_get-map (closed_row kind) rows k ∙ ap (option_map (closed_row kind)) row.1 in
        ap (λ (o : Option Row). is_row is_cancelled o && not (is_row is_cancelled (slice_get old k))) now
        ∙ by_state k row.0.state (λ b e. rang k row.0 b row.1 e)
        ∙ sym (ap (λ (o : Option Row). is_row is_ringing o && is_invite kind) row.1)

-- it is so where a row has ended and new rows wait
pub rang_moved : (rows fresh : List Row) (n : ℕ) (state : State) → is_ended state ≡ true
    → ((k : ℕ) (row : Row) → slice_get fresh k ≡ Some row → is_idle row.state ≡ true) → RangBefore rows (with_state rows n state ++ fresh)
rang_moved rows fresh n state ends waits k row b is rung = go (found rows fresh n state k row is)
  where
    go : Found rows fresh n state k row → is_row is_cancelled (slice_get rows k) ≡ b
    go (inl h) = ap (is_row is_cancelled) h ∙ ap is_cancelled rung
    go (inr (inl h)) = absurd (let e : is_ended (Rung b) ≡ true = ap is_ended (sym rung ∙ h.1) ∙ ends in cc)
    go (inr (inr h)) = absurd (let e : is_idle (Rung b) ≡ true = ap is_idle (sym rung) ∙ waits h.0 row h.1 in cc)

pub rang_same : (rows : List Row) → RangBefore rows rows
rang_same rows k row b is rung = ap (is_row is_cancelled) is ∙ ap is_cancelled rung
