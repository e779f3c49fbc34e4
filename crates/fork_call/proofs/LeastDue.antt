-- The least moment of the caller's transaction and of all rows is the least at which a call has something to do.
use Rattle.fork_call.proofs.Common.{◌≡◌, ◌⊎◌, ℕ, zero, suc, ◌<◌, ◌≤◌, inl, inr, ap, refl, sym, subst, arith, true, false, Bool, List, [], ◌∷◌, length, Option, Some, None, slice_get, cases_lt, le-leb, leb-false, lt-leb, ◌&&◌, cond, fold}
use Rattle.fork_call.proofs.Common.{is_none, min, Row, earlier, is_due, Branch, Call, found, nth_branch, rows_of, give_up_of, lacks_cancel, owes_ack_on, Action, SendAck, SendCancel, SendRequest, GiveUp, FireTimerC, TickClient, TickCancel}
use Rattle.fork_call.proofs.Common.{TickServer, SendAnswer, IsIdle, IsLeastDue, cancel_at, cancel_client_due, client_at, give_up_at, is_any, is_due_at, timer_c_at, due_of, if_runs, branch_waits, moments_of, row_due, scheduled, least_of}
use Rattle.call_model.specs.Client.{client_due}
use Rattle.call_model.specs.Server as server
use Rattle.fork_call.proofs.Idle.{both_later, idle}

-- ---- the moments of rows

-- the moment of a row stands at its number; where no row is, there is none
pub moment_stands : (rows : List Row) (branches : List (Option Branch)) (n : ℕ) → length branches ≡ length rows
    → (slice_get (moments_of rows branches) n ≡ Some (due_of (slice_get rows n) (found (slice_get branches n))))
    ⊎ ((slice_get (moments_of rows branches) n ≡ None) × (due_of (slice_get rows n) (found (slice_get branches n)) ≡ None))
moment_stands [] [] n e = inr (refl, refl)
moment_stands [] (branch ∷ branches) n e = absurd cc
moment_stands (row ∷ rows) [] n e = absurd cc
moment_stands (row ∷ rows) (None ∷ branches) zero e = inl refl
moment_stands (row ∷ rows) (Some branch ∷ branches) zero e = inl refl
moment_stands (row ∷ rows) (branch ∷ branches) (suc n) e = moment_stands rows branches n (let h : length branches ≡ length rows = cc in h)

-- ---- the earliest

either_min : (a b at : ℕ) → min a b ≡ at → (a ≡ at) ⊎ (b ≡ at)
either_min a b at e = elim (cases_lt a b) [ inl h ↦ inl (omega arith) | inr h ↦ inr (omega arith) ]

earlier_is : (a b : Option ℕ) (at : ℕ) → earlier a b ≡ Some at → (a ≡ Some at) ⊎ (b ≡ Some at)
earlier_is None b at e = inr e
earlier_is (Some a) None at e = inl e
earlier_is (Some a) (Some b) at e = elim (either_min a b at cc) [ inl h ↦ inl (ap (λ (x : ℕ). Some x) h) | inr h ↦ inr (ap (λ (x : ℕ). Some x) h) ]

-- it is one of them
least_is : (moments : List (Option ℕ)) (first : Option ℕ) (at : ℕ) → fold earlier first moments ≡ Some at
    → (first ≡ Some at) ⊎ ((n : ℕ) × (slice_get moments n ≡ Some (Some at)))
least_is [] first at e = inl e
least_is (moment ∷ moments) first at e = elim (least_is moments (earlier first moment) at e) [
  | inl h ↦ elim (earlier_is first moment at h) [ inl k ↦ inl k | inr k ↦ inr (zero, ap (λ (m : Option ℕ). Some m) k) ]
  | inr h ↦ inr (suc h.0, h.1)
]

-- where it has not come, none has
none_came : (now : ℕ) (moments : List (Option ℕ)) (first : Option ℕ) → is_due now (fold earlier first moments) ≡ false
    → (is_due now first ≡ false) × ((n : ℕ) (moment : Option ℕ) → slice_get moments n ≡ Some moment → is_due now moment ≡ false)
none_came now [] first e = (e, λ n moment h. absurd cc)
none_came now (moment ∷ moments) first e =
    let rest = none_came now moments (earlier first moment) e in
    let both = both_later now first moment rest.0 in
    (both.0, each both.1 rest.1)
  where
    each : is_due now moment ≡ false → ((n : ℕ) (m : Option ℕ) → slice_get moments n ≡ Some m → is_due now m ≡ false)
        → (n : ℕ) (m : Option ℕ) → slice_get (moment ∷ moments) n ≡ Some m → is_due now m ≡ false
    each here later zero m h =
        let P : Option ℕ → Type 0 = λ x. is_due now x ≡ false in
        let same : moment ≡ m = cc in
        subst P same here
    each here later (suc n) m h = later n m h

-- ---- the actions on a row

neither : (now : ℕ) (a b : Option ℕ) → is_due now a ≡ false → is_due now b ≡ false → is_due now (earlier a b) ≡ false
neither now None b e h = h
neither now (Some a) None e h = e
neither now (Some a) (Some b) e h =
    let first : now < a = leb-false a now e in
    let second : now < b = leb-false b now h in
    lt-leb (min a b) now (omega arith)

not_run : (now : ℕ) (b : Bool) (at : Option ℕ) → (b && is_due now at) ≡ false → is_due now (if_runs b at) ≡ false
not_run now true at e = e
not_run now false at e = refl

true_by : (b : Bool) → (b ≡ false → ⊥) → b ≡ true
true_by true h = refl
true_by false h = absurd (h refl)

past_tests : (now : ℕ) (x y : Bool) (w : Option ℕ) → x ≡ false → y ≡ false → is_due now (cond {A = Option ℕ} x (Some 0) (cond {A = Option ℕ} y (Some 0) w)) ≡ true → is_due now w ≡ true
past_tests now true y w e h due = absurd cc
past_tests now false true w e h due = absurd cc
past_tests now false false w e h due = due

-- where something is due on a row, and none of the others is, it is a tick of its CANCEL's transaction
last_of : (now : ℕ) (trying cancelled runs_c : Bool) (branch : Option Branch) → is_due now (row_due trying cancelled runs_c branch) ≡ true
    → owes_ack_on branch ≡ false → (cancelled && lacks_cancel branch) ≡ false → (trying && is_none branch) ≡ false
    → (cancelled && is_due now (give_up_at branch)) ≡ false → (runs_c && is_due now (timer_c_at branch)) ≡ false → is_due now (client_at branch) ≡ false
    → is_due now (cancel_at branch) ≡ true
last_of now true cancelled runs_c None due ack cancel request give_up timer_c client = absurd cc
last_of now false cancelled runs_c None due ack cancel request give_up timer_c client = absurd cc
last_of now trying cancelled runs_c (Some branch) due ack cancel request give_up timer_c client =
    let waits : is_due now (branch_waits cancelled runs_c branch) ≡ true = past_tests now (owes_ack_on (Some branch)) (cancelled && is_none branch.cancelling) (branch_waits cancelled runs_c branch) ack cancel due in
    let ends : is_due now (earlier (if_runs runs_c branch.timer_c_at) (if_runs cancelled (give_up_of branch.cancelling))) ≡ false =
    neither now (if_runs runs_c branch.timer_c_at) (if_runs cancelled (give_up_of branch.cancelling)) (not_run now runs_c branch.timer_c_at timer_c) (not_run now cancelled (give_up_of branch.cancelling) give_up) in
    true_by (is_due now (cancel_client_due branch.cancelling)) (λ nothing_due.
    let none : is_due now (branch_waits cancelled runs_c branch) ≡ false = neither now (client_due branch.client) _ client (neither now (cancel_client_due branch.cancelling) _ nothing_due ends) in
    absurd cc)

pub last_due : (call : Call) (n now : ℕ) → is_due now (due_of (slice_get (rows_of call) n) (nth_branch call n)) ≡ true
    → is_due_at call now (SendAck n) ≡ false → is_due_at call now (SendCancel n) ≡ false → is_due_at call now (SendRequest n) ≡ false
    → is_due_at call now (GiveUp n) ≡ false → is_due_at call now (FireTimerC n) ≡ false → is_due_at call now (TickClient n) ≡ false
    → is_due_at call now (TickCancel n) ≡ true
last_due call n now due ack cancel request give_up timer_c client =
    last_of now _ _ _ (nth_branch call n) due ack cancel request give_up timer_c client

-- ---- the whole call

false_or_true : (b : Bool) → (b ≡ false) ⊎ (b ≡ true)
false_or_true true = inr refl
false_or_true false = inl refl

module _ (call : Call) (none : call.server.owed ≡ []) (sized : length call.branches ≡ length (rows_of call)) where
  row_nothing_due : (now : ℕ) → is_due now (least_of (scheduled call)) ≡ false → (n : ℕ) → is_due now (due_of (slice_get (rows_of call) n) (nth_branch call n)) ≡ false
  row_nothing_due now nothing_due n =
      let P : Option ℕ → Type 0 = λ m. is_due now m ≡ false in
      elim (moment_stands (rows_of call) call.branches n sized) [
        | inl h ↦ (none_came now (scheduled call) None nothing_due).1 n _ h
        | inr h ↦ subst P (sym h.1) refl
      ]

  -- before that moment nothing is due
  nothing_due_before : (now : ℕ) → is_due now (earlier (server.served_due call.server.machine) (least_of (scheduled call))) ≡ false → IsIdle call now
  nothing_due_before now nothing_due =
      let both = both_later now (server.served_due call.server.machine) (least_of (scheduled call)) nothing_due in
      idle call now none both.0 (row_nothing_due now both.1)

  -- on this row something is due
  row_action : (n at : ℕ) → is_due at (due_of (slice_get (rows_of call) n) (nth_branch call n)) ≡ true → (action : Action) × (is_due_at call at action ≡ true)
  row_action n at due = elim (false_or_true (is_due_at call at (SendAck n))) [
    | inr h ↦ (SendAck n, h)
    | inl ack ↦ elim (false_or_true (is_due_at call at (SendCancel n))) [
      | inr h ↦ (SendCancel n, h)
      | inl cancel ↦ elim (false_or_true (is_due_at call at (SendRequest n))) [
        | inr h ↦ (SendRequest n, h)
        | inl request ↦ elim (false_or_true (is_due_at call at (GiveUp n))) [
          | inr h ↦ (GiveUp n, h)
          | inl give_up ↦ elim (false_or_true (is_due_at call at (FireTimerC n))) [
            | inr h ↦ (FireTimerC n, h)
            | inl timer_c ↦ elim (false_or_true (is_due_at call at (TickClient n))) [
              | inr h ↦ (TickClient n, h)
              | inl client ↦ (TickCancel n, last_due call n at due ack cancel request give_up timer_c client)
            ]
          ]
        ]
      ]
    ]
  ]

  moment_action : (n at : ℕ) → slice_get (scheduled call) n ≡ Some (Some at) → (action : Action) × (is_due_at call at action ≡ true)
  moment_action n at there =
      let P : Option ℕ → Type 0 = λ m. is_due at m ≡ true in
      elim (moment_stands (rows_of call) call.branches n sized) [
        | inl h ↦
            let same : Some at ≡ due_of (slice_get (rows_of call) n) (nth_branch call n) = cc in
            row_action n at (subst P same (le-leb at at (omega arith)))
        | inr h ↦ absurd (let missing = h.0 in cc)
      ]

  not_before : (at : ℕ) → earlier (server.served_due call.server.machine) (least_of (scheduled call)) ≡ Some at → (now : ℕ) (other : Action) → is_due_at call now other ≡ true → at ≤ now
  not_before at e now other due = elim (cases_lt now at) [
    | inl before ↦
        let P : Option ℕ → Type 0 = λ m. is_due now m ≡ false in
        let nothing_due = nothing_due_before now (subst P (sym e) (lt-leb at now before)) other in
        absurd cc
    | inr h ↦ h
  ]

  least_at : (least : Option ℕ) → earlier (server.served_due call.server.machine) (least_of (scheduled call)) ≡ least → IsLeastDue call least
  least_at None e =
      let P : Option ℕ → Type 0 = λ m. (now : ℕ) → is_due now m ≡ false in
      λ now. nothing_due_before now (subst P (sym e) (λ now. refl) now)
  least_at (Some at) e =
      let served = server.served_due call.server.machine in
      elim (earlier_is served (least_of (scheduled call)) at e) [
        | inl h ↦
            let P : Option ℕ → Type 0 = λ m. is_due at m ≡ true in
            (TickServer, subst P (sym h) (le-leb at at (omega arith)), not_before at e)
        | inr h ↦ elim (least_is (scheduled call) None at h) [
          | inl k ↦ absurd cc
          | inr k ↦
              let found_one = moment_action k.0 at k.1 in
              (found_one.0, found_one.1, not_before at e)
        ]
      ]

  pub least_due : IsLeastDue call (earlier (server.served_due call.server.machine) (least_of (scheduled call)))
  least_due = least_at (earlier (server.served_due call.server.machine) (least_of (scheduled call))) refl

-- where something is owed to the caller, it is to be done at any moment
pub owed_due : (call : Call) → is_any call.server.owed ≡ true → IsLeastDue call (Some 0)
owed_due call some = (SendAnswer, some, λ now other due. omega arith)
