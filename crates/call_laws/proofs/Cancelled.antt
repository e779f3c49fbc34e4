-- Which branches an event cancels: that of timer C, and in a closed table of an INVITE those that have rung.
use Rattle.std.proofs.Common.{◌≡◌, ◌∙◌, ◌⊎◌, ◌++◌, ◌∷◌, ◌&&◌, not, ℕ, zero, suc, Bool, true, false, List, [], map, Option, Some, None, ap, refl, sym, inl, inr, nat_lt, slice_get, cond}
use Rattle.std.proofs.lemmas.Bool.{and_parts}
use Rattle.std.specs.List.{cons_option, filter_map}
use Rattle.std.specs.Option.{option_map}
use Rattle.std.specs.Prelude.{unwrap_or, ◌==◌}
use Rattle.fork_model.specs.Contacts.{fresh_row, taking_at}
use Rattle.fork_model.specs.Event.{Event, FinalAnswer}
use Rattle.fork_model.specs.History.{Target, first_row, opening_rows}
use Rattle.fork_model.specs.Event as fork
use Rattle.fork_model.specs.Step.{Effect, accepts, answers, redirects, stores, change_at, closed_state, effect, next, settled, settled_row, with_effect, with_state}
use Rattle.fork_model.specs.Table.{Kind, Offer, Row, State, Table, is_cancelled, is_invite, is_row}
use Rattle.fork_model.specs.Table as table
use Rattle.fork_model.specs.Waiting.{may_start}

abbrev IsCancelledAt : List Row → ℕ → Type 0
IsCancelledAt rows n = is_row is_cancelled (slice_get rows n) ≡ true

abbrev NoneCancelled : List Row → Type 0
NoneCancelled rows = (n : ℕ) → is_row is_cancelled (slice_get rows n) ≡ false

-- ---- new rows wait

filtered_none : {X : Type 0} (f : X → Option Row) → ((x : X) (row : Row) → f x ≡ Some row → is_cancelled row.state ≡ false) → (xs : List X) → NoneCancelled (filter_map f xs)
filtered_none f none [] k = refl
filtered_none f none (x ∷ xs) k = by (f x) (none x) (filtered_none f none xs) k
  where
    by : (o : Option Row) → ((row : Row) → o ≡ Some row → is_cancelled row.state ≡ false) → NoneCancelled (filter_map f xs) → NoneCancelled (cons_option o (filter_map f xs))
    by None calm rest k = rest k
    by (Some row) calm rest zero = calm row refl
    by (Some row) calm rest (suc k) = rest k

fresh_none : (n : ℕ) (fresh : List (ℕ × Offer)) (places : List (ℕ × ℕ)) → NoneCancelled (filter_map (λ p. option_map (λ f. fresh_row n p.0 f) (slice_get fresh p.1)) places)
fresh_none n fresh places = filtered_none _ (λ p row e. by p (slice_get fresh p.1) row e) places
  where
    by : (p : ℕ × ℕ) (o : Option (ℕ × Offer)) (row : Row) → option_map (λ f. fresh_row n p.0 f) o ≡ Some row → is_cancelled row.state ≡ false
    by p None row e = absurd cc
    by p (Some f) row e = let same : fresh_row n p.0 f ≡ row = cc in ap (λ (x : Row). is_cancelled x.state) (sym same)

-- so do those that a fork opens with, or are tried
pub opening_none : (targets : List Target) (n : ℕ) → is_row is_cancelled (slice_get (opening_rows targets) n) ≡ false
opening_none targets = filtered_none _ (λ p row e. by p (slice_get targets p.1) row e) _
  where
    state_of : (b : Bool) → is_cancelled (cond {A = State} b table.Trying table.Idle) ≡ false
    state_of true = refl
    state_of false = refl

    by : (p : ℕ × ℕ) (o : Option Target) (row : Row) → option_map (first_row p.0 p.1) o ≡ Some row → is_cancelled row.state ≡ false
    by p None row e = absurd cc
    by p (Some t) row e = let same : first_row p.0 p.1 t ≡ row = cc in ap (λ (x : Row). is_cancelled x.state) (sym same) ∙ state_of (p.0 == 0)

no_rows : NoneCancelled []
no_rows n = refl

-- ---- a row that is set, and those behind

not_both : (b : Bool) → b ≡ false → b ≡ true → ⊥
not_both true e h = absurd cc
not_both false e h = absurd cc

cancelled_behind : (rows fresh : List Row) (n : ℕ) → NoneCancelled fresh → IsCancelledAt (rows ++ fresh) n → IsCancelledAt rows n
cancelled_behind [] fresh n none h = absurd (not_both _ (none n) h)
cancelled_behind (row ∷ rows) fresh zero none h = h
cancelled_behind (row ∷ rows) fresh (suc n) none h = cancelled_behind rows fresh n none h

cancelled_set : (rows fresh : List Row) (k n : ℕ) (s : State) → NoneCancelled fresh → IsCancelledAt (with_state rows k s ++ fresh) n
    → IsCancelledAt rows n ⊎ ((n ≡ k) × (is_cancelled s ≡ true))
cancelled_set [] fresh k n s none h = absurd (not_both _ (none n) h)
cancelled_set (row ∷ rows) fresh zero zero s none h = inr (refl, h)
cancelled_set (row ∷ rows) fresh zero (suc n) s none h = inl (cancelled_behind rows fresh n none h)
cancelled_set (row ∷ rows) fresh (suc k) zero s none h = inl h
cancelled_set (row ∷ rows) fresh (suc k) (suc n) s none h = up (cancelled_set rows fresh k n s none h)
  where
    up : IsCancelledAt rows n ⊎ ((n ≡ k) × (is_cancelled s ≡ true)) → IsCancelledAt rows n ⊎ ((suc n ≡ suc k) × (is_cancelled s ≡ true))
    up (inl e) = inl e
    up (inr (e, c)) = inr (ap suc e, c)

-- ---- settling

closed_cancels : (k : Kind) (s : State) → is_cancelled (closed_state k s) ≡ true → (is_cancelled s ≡ true) ⊎ (is_invite k ≡ true)
closed_cancels k table.Idle h = absurd cc
closed_cancels k table.Trying h = absurd cc
closed_cancels k (table.Rung true) h = inl refl
closed_cancels k (table.Rung false) h = inr h
closed_cancels k (table.Ended end) h = absurd cc

settled_cancels : (u : Table) (rows : List Row) (n : ℕ) → IsCancelledAt (map (settled_row u) rows) n → IsCancelledAt rows n ⊎ ((u.closed ≡ true) × (is_invite u.kind ≡ true))
settled_cancels u [] n h = absurd cc
settled_cancels u (row ∷ rows) (suc n) h = settled_cancels u rows n h
settled_cancels u (row ∷ rows) zero h = by u.closed (may_start u.rows row) refl h
  where
    either : u.closed ≡ true → (is_cancelled row.state ≡ true) ⊎ (is_invite u.kind ≡ true) → (is_cancelled row.state ≡ true) ⊎ ((u.closed ≡ true) × (is_invite u.kind ≡ true))
    either is (inl e) = inl e
    either is (inr e) = inr (is, e)

    by : (c b : Bool) → u.closed ≡ c → is_cancelled (cond {A = State} c (closed_state u.kind row.state) (cond {A = State} b table.Trying row.state)) ≡ true
        → (is_cancelled row.state ≡ true) ⊎ ((u.closed ≡ true) × (is_invite u.kind ≡ true))
    by true b is h = either is (closed_cancels u.kind row.state h)
    by false true is h = absurd cc
    by false false is h = inl h

-- ---- the effect of an event

-- it cancels none of its rows
abbrev IsCalm : Option Effect → Type 0
IsCalm None = Unit {0}
IsCalm (Some e) = (is_cancelled e.state ≡ false) × NoneCancelled e.fresh

-- what an event may have done to row n that is cancelled after it
abbrev pub MayCancel : Table → Event → Table → ℕ → Type 0
MayCancel t ev u n = (is_row is_cancelled (slice_get t.rows n) ≡ true) ⊎ ((is_invite t.kind ≡ true) × ((u.closed ≡ true) ⊎ (ev ≡ fork.TimerC n)))

-- one that cancels none itself
calm_cancels : (t : Table) (ev : Event) (k n : ℕ) (o : Option Effect) → IsCalm o → let u = unwrap_or (option_map settled (option_map (with_effect t k) o)) t in IsCancelledAt u.rows n → MayCancel t ev u n
calm_cancels t ev k n None calm h = inl h
calm_cancels t ev k n (Some e) calm h = by (settled_cancels w w.rows n h)
  where
    w : Table
    w = with_effect t k e

    set : IsCancelledAt t.rows n ⊎ ((n ≡ k) × (is_cancelled e.state ≡ true)) → MayCancel t ev (settled w) n
    set (inl before) = inl before
    set (inr (at, cancels)) = absurd (not_both _ calm.0 cancels)

    by : IsCancelledAt w.rows n ⊎ ((w.closed ≡ true) × (is_invite w.kind ≡ true)) → MayCancel t ev (settled w) n
    by (inl here) = set (cancelled_set t.rows e.fresh k n e.state calm.1 here)
    by (inr (closed, invite)) = inr (invite, inl closed)

at_row : (t : Table) (at k n : ℕ) (ev : Event) (o : Option Row) → ((row : Row) → IsCalm (effect t row at ev row.state))
    → let u = unwrap_or (option_map settled (change_at t at ev k o)) t in IsCancelledAt u.rows n → MayCancel t ev u n
at_row t at k n ev None calm h = inl h
at_row t at k n ev (Some row) calm h = calm_cancels t ev k n (effect t row at ev row.state) (calm row) h

ring : (t : Table) (row : Row) (at k status : ℕ) (s : State) → IsCalm (effect t row at (fork.Ring k status) s)
ring t row at k status table.Idle = tt
ring t row at k status table.Trying = (refl, no_rows)
ring t row at k status (table.Rung cancelled) = tt
ring t row at k status (table.Ended end) = tt

timeout : (t : Table) (row : Row) (at k : ℕ) (s : State) → IsCalm (effect t row at (fork.Timeout k) s)
timeout t row at k table.Idle = tt
timeout t row at k table.Trying = (refl, no_rows)
timeout t row at k (table.Rung cancelled) = (refl, no_rows)
timeout t row at k (table.Ended end) = tt

fault : (t : Table) (row : Row) (at k : ℕ) (s : State) → IsCalm (effect t row at (fork.Fault k) s)
fault t row at k table.Idle = tt
fault t row at k table.Trying = (refl, no_rows)
fault t row at k (table.Rung cancelled) = (refl, no_rows)
fault t row at k (table.Ended end) = tt

give_up : (t : Table) (row : Row) (at k : ℕ) (s : State) → IsCalm (effect t row at (fork.GiveUp k) s)
give_up t row at k table.Idle = tt
give_up t row at k table.Trying = tt
give_up t row at k (table.Rung true) = (refl, no_rows)
give_up t row at k (table.Rung false) = tt
give_up t row at k (table.Ended end) = tt

answered : (t : Table) (row : Row) (at k : ℕ) (answer : FinalAnswer) → IsCalm (Some (answers t k row at answer))
answered t row at k answer = by (nat_lt answer.status 300) (nat_lt answer.status 400)
  where
    by : (b c : Bool) → IsCalm (Some (cond {A = Effect} b (accepts at) (cond {A = Effect} c (redirects k at answer (taking_at t row answer.offers)) (stores at answer))))
    by true c = (refl, no_rows)
    by false true = (refl, fresh_none k (taking_at t row answer.offers).fresh _)
    by false false = (refl, no_rows)

answer : (t : Table) (row : Row) (at k : ℕ) (a : FinalAnswer) (s : State) → IsCalm (effect t row at (fork.Answer k a) s)
answer t row at k a table.Idle = tt
answer t row at k a table.Trying = answered t row at k a
answer t row at k a (table.Rung cancelled) = answered t row at k a
answer t row at k a (table.Ended end) = tt

-- timer C cancels its own row, of an INVITE
timer_c : (t : Table) (at k n : ℕ) (o : Option Row) → let u = unwrap_or (option_map settled (change_at t at (fork.TimerC k) k o)) t in IsCancelledAt u.rows n → MayCancel t (fork.TimerC k) u n
timer_c t at k n None h = inl h
timer_c t at k n (Some row) h = by_state row.state h
  where
    ev : Event
    ev = fork.TimerC k

    after : Option Effect → Table
    after o = unwrap_or (option_map settled (option_map (with_effect t k) o)) t

    assumes : (b : Bool) (e : Effect) → is_cancelled e.state ≡ false → NoneCancelled e.fresh → IsCalm (cond {A = Option Effect} b (Some e) None)
    assumes true e calm none = (calm, none)
    assumes false e calm none = tt

    w : Table
    w = with_effect t k (record { state = table.Rung true; fresh = []; closes = false })

    set : is_invite t.kind ≡ true → IsCancelledAt t.rows n ⊎ ((n ≡ k) × (true ≡ true)) → MayCancel t ev (settled w) n
    set invite (inl before) = inl before
    set invite (inr (at, cancels)) = inr (invite, inr (ap fork.TimerC (sym at)))

    cancels : is_invite t.kind ≡ true → IsCancelledAt w.rows n ⊎ ((w.closed ≡ true) × (is_invite w.kind ≡ true)) → MayCancel t ev (settled w) n
    cancels invite (inl here) = set invite (cancelled_set t.rows [] k n (table.Rung true) no_rows here)
    cancels invite (inr (closed, is)) = inr (is, inl closed)

    rung : (b : Bool) → (b ≡ true → is_invite t.kind ≡ true) → let u = after (cond {A = Option Effect} b (Some (record { state = table.Rung true; fresh = []; closes = false })) None) in
        IsCancelledAt u.rows n → MayCancel t ev u n
    rung true invite h = cancels (invite refl) (settled_cancels w w.rows n h)
    rung false invite h = inl h

    by_state : (s : State) → let u = after (effect t row at ev s) in IsCancelledAt u.rows n → MayCancel t ev u n
    by_state table.Idle h = inl h
    by_state table.Trying h = calm_cancels t ev k n (effect t row at ev table.Trying) (assumes (is_invite t.kind) _ refl no_rows) h
    by_state (table.Rung cancelled) h = rung (is_invite t.kind && not cancelled) (λ e. (and_parts (is_invite t.kind) (not cancelled) e).0) h
    by_state (table.Ended end) h = inl h

-- the caller's CANCEL closes the table
cancel : (t : Table) (n : ℕ) (b : Bool) → let u = unwrap_or (option_map settled (cond {A = Option Table} b (Some (record t { closed = true })) None)) t in IsCancelledAt u.rows n → MayCancel t fork.Cancel u n
cancel t n false h = inl h
cancel t n true h = by (settled_cancels (record t { closed = true }) t.rows n h)
  where
    by : IsCancelledAt t.rows n ⊎ ((true ≡ true) × (is_invite t.kind ≡ true)) → MayCancel t fork.Cancel (settled (record t { closed = true })) n
    by (inl here) = inl here
    by (inr (closed, invite)) = inr (invite, inl closed)

pub cancelled_by : (t : Table) (ev : Event) (at n : ℕ) → is_row is_cancelled (slice_get (next t ev at).rows n) ≡ true → MayCancel t ev (next t ev at) n
cancelled_by t (fork.Ring k status) at n h = at_row t at k n (fork.Ring k status) (slice_get t.rows k) (λ row. ring t row at k status row.state) h
cancelled_by t (fork.Answer k a) at n h = at_row t at k n (fork.Answer k a) (slice_get t.rows k) (λ row. answer t row at k a row.state) h
cancelled_by t (fork.Timeout k) at n h = at_row t at k n (fork.Timeout k) (slice_get t.rows k) (λ row. timeout t row at k row.state) h
cancelled_by t (fork.Fault k) at n h = at_row t at k n (fork.Fault k) (slice_get t.rows k) (λ row. fault t row at k row.state) h
cancelled_by t (fork.TimerC k) at n h = timer_c t at k n (slice_get t.rows k) h
cancelled_by t (fork.GiveUp k) at n h = at_row t at k n (fork.GiveUp k) (slice_get t.rows k) (λ row. give_up t row at k row.state) h
cancelled_by t fork.Cancel at n h = cancel t n (is_invite t.kind && not t.closed) h
