-- A row's moment changes by its part, and by the events that name, start or cancel it: nothing else changes it.
use Rattle.fork_call.proofs.Common.{◌≡◌, ◌∙◌, ℕ, zero, suc, inl, inr, ap, refl, sym, subst, true, false, Bool, List, [], ◌∷◌, ◌++◌, map, length, Option, Some, None, slice_get, ◌&&◌, not, Row, Table, is_row, is_trying, is_cancelled, Event}
use Rattle.fork_call.proofs.Common.{row_named, OthersAreLeft, Reply, BecameIsExact, IsNumberIn, next, added, table_of, MessageText, ContactText, Branch, Call, found, nth_branch, rows_of, runs_timer_c, Posts, call_tag, table_added, due_of, if_runs}
use Rattle.fork_call.proofs.Common.{row_due, moments_of, scheduled, IsTimedBut, moment_at}
use Rattle.fork_model.specs.Table.{State, Idle, Trying, Rung, Ended}
use Rattle.fork_model.specs.OpenBranches.{IsLeftAt}
use Rattle.fork_model.specs.Reply.{became, has_become}
use Rattle.call_model.specs.Posting.{no_branch, rows_more}
use Rattle.fork_call.proofs.LeastDue as due

-- ---- a branch that an event does not name

-- where it is not started and not cancelled, the timers that its moment rests on run as before
record RunsAs (old new : State) : Type 0 where
  trying : is_trying new ≡ is_trying old
  cancelled : is_cancelled new ≡ is_cancelled old
  timer_c : runs_timer_c new ≡ runs_timer_c old

same_state : (old new : State) → new ≡ old → RunsAs old new
same_state old new e = record { trying = ap is_trying e; cancelled = ap is_cancelled e; timer_c = ap runs_timer_c e }

left_so : (t : Table) (old new : State) → IsLeftAt t old new → (is_trying new && not (is_trying old)) ≡ false → (is_cancelled new && not (is_cancelled old)) ≡ false → RunsAs old new
left_so t Idle new left started cancelled = elim left [
  | inl e ↦ same_state Idle new e
  | inr h ↦ elim h [
    | inl e ↦ absurd (let P : State → Type 0 = λ s. (is_trying s && true) ≡ false in let x = subst P e.0 started in cc)
    | inr e ↦ record { trying = ap is_trying e.0; cancelled = ap is_cancelled e.0; timer_c = ap runs_timer_c e.0 }
  ]
]
left_so t Trying new left started cancelled = same_state Trying new left
left_so t (Rung true) new left started cancelled = elim left [
  | inl e ↦ same_state (Rung true) new e
  | inr e ↦ same_state (Rung true) new e.0
]
left_so t (Rung false) new left started cancelled = elim left [
  | inl e ↦ same_state (Rung false) new e
  | inr e ↦ absurd (let P : State → Type 0 = λ s. (is_cancelled s && true) ≡ false in let x = subst P e.0 cancelled in cc)
]
left_so t (Ended end) new left started cancelled = same_state (Ended end) new left

-- ---- lists

-- more branches whose requests were not sent
branch_more : (branches : List (Option Branch)) (rows : List Row) (n : ℕ) → found (slice_get (branches ++ map no_branch rows) n) ≡ found (slice_get branches n)
branch_more [] [] n = refl
branch_more [] (row ∷ rows) zero = refl
branch_more [] (row ∷ rows) (suc n) = branch_more [] rows n
branch_more (branch ∷ branches) rows zero = refl
branch_more (branch ∷ branches) rows (suc n) = branch_more branches rows n

-- no part is there where no row is
branch_past : (rows : List Row) (branches : List (Option Branch)) (n : ℕ) → length branches ≡ length rows → slice_get rows n ≡ None → found (slice_get branches n) ≡ None
branch_past [] [] n e none = refl
branch_past [] (branch ∷ branches) n e none = absurd cc
branch_past (row ∷ rows) [] n e none = absurd cc
branch_past (row ∷ rows) (branch ∷ branches) zero e none = absurd cc
branch_past (row ∷ rows) (branch ∷ branches) (suc n) e none = branch_past rows branches n (let h : length branches ≡ length rows = cc in h) none

number_first : (rows more : List ℕ) (n : ℕ) → IsNumberIn rows n → IsNumberIn (rows ++ more) n
number_first [] more n (place, h) = absurd cc
number_first (row ∷ rows) more n (zero, h) = (zero, h)
number_first (row ∷ rows) more n (suc place, h) = let rest = number_first rows more n (place, h) in (suc rest.0, rest.1)

number_second : (rows more : List ℕ) (n : ℕ) → IsNumberIn more n → IsNumberIn (rows ++ more) n
number_second [] more n h = h
number_second (row ∷ rows) more n h = let rest = number_second rows more n h in (suc rest.0, rest.1)

-- ---- which rows are still to be timed

pub timed_at_once : (call : Call) → length call.branches ≡ length (rows_of call) → IsTimedBut call [] (scheduled call)
timed_at_once call sized = record {
  timed = λ n free. elim (due.moment_stands (rows_of call) call.branches n sized) [
    | inl h ↦ ap found h ∙ found_moment (due_of (slice_get (rows_of call) n) (nth_branch call n))
    | inr h ↦ ap found h.0 ∙ sym h.1
  ];
}
  where
    found_moment : (m : Option ℕ) → found (Some m) ≡ m
    found_moment None = refl
    found_moment (Some at) = refl

pub length_moments : (rows : List Row) (branches : List (Option Branch)) → length (moments_of rows branches) ≡ length rows
length_moments [] branches = refl
length_moments (row ∷ rows) [] = ap suc (length_moments rows [])
length_moments (row ∷ rows) (branch ∷ branches) = ap suc (length_moments rows branches)

-- ---- an event that is posted

no_start : (b : Bool) → (b && true) ≡ false → if_runs b (Some 0) ≡ None
no_start true e = absurd cc
no_start false e = refl

not_become : (test : State → Bool) (old new : List Row) (n : ℕ) → BecameIsExact → (IsNumberIn (became test old new) n → ⊥) → has_become test old new n ≡ false
not_become test old new n exact free = false_by (has_become test old new n) (λ h. free ((exact test old new n).1 h))
  where
    false_by : (b : Bool) → (b ≡ true → ⊥) → b ≡ false
    false_by true h = absurd (h refl)
    false_by false h = refl

runs_so : (old new : Row) (branch : Option Branch) → RunsAs old.state new.state → due_of (Some new) branch ≡ due_of (Some old) branch
runs_so old new branch is =
    ap (λ (b : Bool). row_due b (is_cancelled new.state) (runs_timer_c new.state) branch) is.trying
    ∙ ap (λ (b : Bool). row_due (is_trying old.state) b (runs_timer_c new.state) branch) is.cancelled
    ∙ ap (λ (b : Bool). row_due (is_trying old.state) (is_cancelled old.state) b branch) is.timer_c

row_stays : OthersAreLeft → (t : Table) (event : Event) (at n : ℕ) (branch : Option Branch) (old new : Option Row)
    → slice_get t.rows n ≡ old → slice_get (next t event at).rows n ≡ new
    → (row_named event ≡ Some n → ⊥)
    → (is_row is_trying new && not (is_row is_trying old)) ≡ false
    → (is_row is_cancelled new && not (is_row is_cancelled old)) ≡ false
    → (old ≡ None → branch ≡ None)
    → due_of new branch ≡ due_of old branch
row_stays left t event at n branch None None before after other started cancelled none = refl
row_stays left t event at n branch None (Some row) before after other started cancelled none =
    rw (none refl) (no_start (is_trying row.state) started)
row_stays left t event at n branch (Some old) new before after other started cancelled none =
    let stands = left t event at n old other before in
    let same : new ≡ Some stands.0 = sym after ∙ stands.1 in
    let P : Option Row → Type 0 = λ r. (is_row is_trying r && not (is_trying old.state)) ≡ false in
    let Q : Option Row → Type 0 = λ r. (is_row is_cancelled r && not (is_cancelled old.state)) ≡ false in
    let runs = left_so (next t event at) old.state (stands.0).state stands.2 (subst P same started) (subst Q same cancelled) in
    ap (λ (r : Option Row). due_of r branch) same ∙ runs_so old stands.0 branch runs

module _ (left : OthersAreLeft) (exact : BecameIsExact) where
  pub posts_timed : (call new : Call) (event : Event) (contacts : List ContactText) (response : Option MessageText) (reply : Reply) (rows : List ℕ) (moments : List (Option ℕ))
      → length call.branches ≡ length (rows_of call)
      → Posts call event contacts response reply new
      → ((n : ℕ) → row_named event ≡ Some n → IsNumberIn rows n)
      → IsTimedBut call rows moments
      → IsTimedBut new (rows ++ (reply.started ++ reply.cancelled)) moments
  posts_timed call new event contacts response reply rows moments sized posts named is = record { timed = λ n free. at n free }
    where
      at : (n : ℕ) → (IsNumberIn (rows ++ (reply.started ++ reply.cancelled)) n → ⊥) → moment_at moments n ≡ due_of (slice_get (rows_of new) n) (nth_branch new n)
      at n free =
          let log = added call.log call_tag event reply in
          let t = table_of call.log in
          let u = next t event (length call.log.history) in
          let rows_are : rows_of new ≡ u.rows = ap (λ (x : Call). rows_of x) posts.follows ∙ ap (λ (x : Table). x.rows) (table_added call.log call_tag event reply) in
          let branch_is : nth_branch new n ≡ nth_branch call n = ap (λ (x : Call). nth_branch x n) posts.follows ∙ branch_more call.branches (rows_more call.log log) n in
          let P : List ℕ → Type 0 = λ ns. IsNumberIn ns n in
          let started = not_become is_trying t.rows u.rows n exact (λ h. free (number_second rows (reply.started ++ reply.cancelled) n (number_first reply.started reply.cancelled n (subst P (sym posts.reply_is.started) h)))) in
          let cancelled = not_become is_cancelled t.rows u.rows n exact (λ h. free (number_second rows (reply.started ++ reply.cancelled) n (number_second reply.started reply.cancelled n (subst P (sym posts.reply_is.cancelled) h)))) in
          let stays = row_stays left t event (length call.log.history) n (nth_branch call n) (slice_get t.rows n) (slice_get u.rows n) refl refl
          (λ e. free (number_first rows (reply.started ++ reply.cancelled) n (named n e))) started cancelled (branch_past t.rows call.branches n sized) in
          let before = is.timed n (λ h. free (number_first rows (reply.started ++ reply.cancelled) n h)) in
          before ∙ sym stays
          ∙ ap (λ (rs : List Row). due_of (slice_get rs n) (nth_branch call n)) (sym rows_are)
          ∙ ap (λ (l : Option Branch). due_of (slice_get (rows_of new) n) l) (sym branch_is)
