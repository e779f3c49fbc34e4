-- A fork that has succeeded stays so, and where a 2xx goes up it has.
use Rattle.std.proofs.Common.{◌≡◌, ◌∙◌, ◌⊎◌, ◌++◌, ◌∷◌, ◌||◌, ℕ, zero, suc, Bool, true, false, List, [], map, Option, Some, None, ap, refl, sym, subst, inl, inr, nat_lt, slice_get, cond}
use Rattle.std.proofs.lemmas.Bool.{and_parts, cond-true, or_cases, or_left, or_right}
use Rattle.std.specs.List.{list_any}
use Rattle.std.specs.Option.{option_map}
use Rattle.std.specs.Prelude.{unwrap_or}
use Rattle.fork_model.specs.Event.{Event, FinalAnswer}
use Rattle.fork_model.specs.Event as fork
use Rattle.fork_model.specs.Reply.{success, success_goes_up}
use Rattle.fork_model.specs.Step.{Effect, accepts, answers, change_at, effect, next, settled, settled_row, with_effect, with_state}
use Rattle.fork_model.specs.Steps.{BranchesGoOn, GoesOn}
use Rattle.fork_model.specs.Table.{Kind, Invite, Other, Row, State, Table, Idle, Trying, Rung, Ended, Accepted, is_accepted, is_ended, is_open, is_row, is_succeeded}

any_index : (rows : List Row) → list_any (λ row. is_accepted row.state) rows ≡ true
    → (n : ℕ) × (row : Row) × (slice_get rows n ≡ Some row) × (is_accepted row.state ≡ true)
any_index [] e = absurd cc
any_index (x ∷ rows) e = by (is_accepted x.state) refl e (λ h. any_index rows h)
  where
    by : (b : Bool) → is_accepted x.state ≡ b → (b || list_any (λ row. is_accepted row.state) rows) ≡ true
        → (list_any (λ row. is_accepted row.state) rows ≡ true → (n : ℕ) × (row : Row) × (slice_get rows n ≡ Some row) × (is_accepted row.state ≡ true))
        → (n : ℕ) × (row : Row) × (slice_get (x ∷ rows) n ≡ Some row) × (is_accepted row.state ≡ true)
    by true is e rest = (zero, x, refl, is)
    by false is e rest = let f = rest e in (suc f.0, f.1, f.2, f.3)

index_any : (rows : List Row) (n : ℕ) (row : Row) → slice_get rows n ≡ Some row → is_accepted row.state ≡ true
    → list_any (λ row. is_accepted row.state) rows ≡ true
index_any [] n row there is = absurd cc
index_any (x ∷ rows) zero row there is =
    let P : Option Row → Type 0 = λ o. is_row is_accepted o ≡ true in
    let here : is_accepted x.state ≡ true = subst P (sym there) is in
    or_left (is_accepted x.state) (list_any (λ row. is_accepted row.state) rows) here
index_any (x ∷ rows) (suc n) row there is = or_right (is_accepted x.state) (list_any (λ row. is_accepted row.state) rows) (index_any rows n row there is)

accepted_ended : (s : State) → is_accepted s ≡ true → is_ended s ≡ true
accepted_ended Idle e = absurd cc
accepted_ended Trying e = absurd cc
accepted_ended (Rung cancelled) e = absurd cc
accepted_ended (Ended end) e = refl

pub succeeded_later : (t u : Table) → GoesOn t u → is_succeeded t.rows ≡ true → is_succeeded u.rows ≡ true
succeeded_later t u goes e =
    let f = any_index t.rows e in
    let later = goes f.0 f.1 f.2 in
    index_any u.rows f.0 later.0 later.1 (ap is_accepted (later.2.ended (accepted_ended f.1.state f.3)) ∙ f.3)

pub succeeded_before : (t u : Table) → GoesOn t u → is_succeeded u.rows ≡ false → is_succeeded t.rows ≡ false
succeeded_before t u goes e = by (is_succeeded t.rows) refl
  where
    by : (b : Bool) → is_succeeded t.rows ≡ b → is_succeeded t.rows ≡ false
    by true is = absurd (let h : true ≡ false = sym (succeeded_later t u goes is) ∙ e in cc)
    by false is = is

pub row_of : (test : State → Bool) (o : Option Row) → is_row test o ≡ true → (row : Row) × (o ≡ Some row) × (test row.state ≡ true)
row_of test None e = absurd cc
row_of test (Some row) e = (row, refl, e)

-- ---- where a 2xx goes up

settled_accepted : (u : Table) (at : ℕ) (row : Row) → u.closed ≡ true → is_accepted (settled_row u (record row { state = Ended (Accepted at) })).state ≡ true
settled_accepted u at row closed = ap is_accepted (cond-true _ _ _ closed)

accepted_at : (u : Table) (at : ℕ) → u.closed ≡ true → (rows fresh : List Row) (k : ℕ) (row : Row) → slice_get rows k ≡ Some row
    → list_any (λ r. is_accepted r.state) (map (settled_row u) (with_state rows k (Ended (Accepted at)) ++ fresh)) ≡ true
accepted_at u at closed [] fresh k row there = absurd cc
accepted_at u at closed (x ∷ rows) fresh zero row there = or_left _ _ (settled_accepted u at x closed)
accepted_at u at closed (x ∷ rows) fresh (suc k) row there = or_right _ _ (accepted_at u at closed rows fresh k row there)

accepts_open : (t : Table) (k at : ℕ) (a : FinalAnswer) (row : Row) → slice_get t.rows k ≡ Some row → is_open row.state ≡ true → nat_lt a.status 300 ≡ true
    → is_succeeded (next t (fork.Answer k a) at).rows ≡ true
accepts_open t k at a row there is lt =
    let F : Option Row → Type 0 = λ o. is_succeeded (unwrap_or (option_map settled (change_at t at (fork.Answer k a) k o)) t).rows ≡ true in
    subst F (sym there) (by row.state is)
  where
    made : is_succeeded (settled (with_effect t k (answers t k row at a))).rows ≡ true
    made =
        let E : Effect → Type 0 = λ x. is_succeeded (settled (with_effect t k x)).rows ≡ true in
        subst E (sym (cond-true _ _ _ lt)) (accepted_at (with_effect t k (accepts at)) at (or_right t.closed true refl) t.rows [] k row there)

    by : (s : State) → is_open s ≡ true
        → is_succeeded (unwrap_or (option_map settled (option_map (with_effect t k) (effect t row at (fork.Answer k a) s))) t).rows ≡ true
    by Idle e = absurd cc
    by Trying e = made
    by (Rung cancelled) e = made
    by (Ended end) e = absurd cc

-- the row itself is accepted
this_accepted : (u : Table) (at : ℕ) → u.closed ≡ true → (rows fresh : List Row) (k : ℕ) (row : Row) → slice_get rows k ≡ Some row
    → is_row is_accepted (slice_get (map (settled_row u) (with_state rows k (Ended (Accepted at)) ++ fresh)) k) ≡ true
this_accepted u at closed [] fresh k row there = absurd cc
this_accepted u at closed (x ∷ rows) fresh zero row there = settled_accepted u at x closed
this_accepted u at closed (x ∷ rows) fresh (suc k) row there = this_accepted u at closed rows fresh k row there

pub accepts_row : (t : Table) (k at : ℕ) (a : FinalAnswer) (row : Row) → slice_get t.rows k ≡ Some row → is_open row.state ≡ true → nat_lt a.status 300 ≡ true
    → is_row is_accepted (slice_get (next t (fork.Answer k a) at).rows k) ≡ true
accepts_row t k at a row there is lt =
    let F : Option Row → Type 0 = λ o. is_row is_accepted (slice_get (unwrap_or (option_map settled (change_at t at (fork.Answer k a) k o)) t).rows k) ≡ true in
    subst F (sym there) (by row.state is)
  where
    made : is_row is_accepted (slice_get (settled (with_effect t k (answers t k row at a))).rows k) ≡ true
    made =
        let E : Effect → Type 0 = λ x. is_row is_accepted (slice_get (settled (with_effect t k x)).rows k) ≡ true in
        subst E (sym (cond-true _ _ _ lt)) (this_accepted (with_effect t k (accepts at)) at (or_right t.closed true refl) t.rows [] k row there)

    by : (s : State) → is_open s ≡ true
        → is_row is_accepted (slice_get (unwrap_or (option_map settled (option_map (with_effect t k) (effect t row at (fork.Answer k a) s))) t).rows k) ≡ true
    by Idle e = absurd cc
    by Trying e = made
    by (Rung cancelled) e = made
    by (Ended end) e = absurd cc

-- and stays so
pub accepted_stays : (t u : Table) → GoesOn t u → (n : ℕ) → is_row is_accepted (slice_get t.rows n) ≡ true → is_row is_accepted (slice_get u.rows n) ≡ true
accepted_stays t u goes n e =
    let row = row_of is_accepted (slice_get t.rows n) e in
    let later = goes n row.0 row.1 in
    ap (is_row is_accepted) later.1 ∙ ap is_accepted (later.2.ended (accepted_ended row.0.state row.2)) ∙ row.2

goes_up : (t : Table) (kind : Kind) (row : Option Row) → success_goes_up t kind row ≡ true → (is_row is_open row ≡ true) ⊎ (is_row is_accepted row ≡ true)
goes_up t Invite row e = or_cases _ _ e
goes_up t Other row e = inl (and_parts _ _ e).0

cond_some : (b : Bool) (k n : ℕ) → cond {A = Option ℕ} b (Some k) None ≡ Some n → b ≡ true
cond_some true k n e = refl
cond_some false k n e = absurd cc

pub success_succeeds : BranchesGoOn → (t : Table) (event : Event) (at n : ℕ) → success t event ≡ Some n → is_succeeded (next t event at).rows ≡ true
success_succeeds goes_on t (fork.Ring k status) at n e = absurd cc
success_succeeds goes_on t (fork.Answer k a) at n e =
    let both = and_parts (nat_lt a.status 300) (success_goes_up t t.kind (slice_get t.rows k)) (cond_some _ k n e) in
    elim (goes_up t t.kind (slice_get t.rows k) both.1) [
      | inl waits ↦
          let row = row_of is_open (slice_get t.rows k) waits in
          accepts_open t k at a row.0 row.1 row.2 both.0
      | inr accepted ↦
          let row = row_of is_accepted (slice_get t.rows k) accepted in
          succeeded_later t (next t (fork.Answer k a) at) (goes_on t (fork.Answer k a) at) (index_any t.rows k row.0 row.1 row.2)
    ]
success_succeeds goes_on t (fork.Timeout k) at n e = absurd cc
success_succeeds goes_on t (fork.Fault k) at n e = absurd cc
success_succeeds goes_on t (fork.TimerC k) at n e = absurd cc
success_succeeds goes_on t (fork.GiveUp k) at n e = absurd cc
success_succeeds goes_on t fork.Cancel at n e = absurd cc
