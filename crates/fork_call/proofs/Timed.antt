-- After a step each row has its moment, where the rows that the step touched are timed anew.
use Rattle.fork_call.proofs.Common.{◌≡◌, ◌∙◌, ◌⊎◌, ℕ, zero, suc, ◌+◌, ◌<◌, ◌≤◌, ap, refl, sym, subst, inl, inr, arith, List, [], ◌∷◌, ◌++◌, length, length-append, replicate, take, Option, Some, None, slice_get, slice_set, false, cases_lt}
use Rattle.fork_call.proofs.Common.{slice_get_within, Core, Event, row_named, Reply, OthersAreLeft, BecameIsExact, IsNumberIn, next, PositionsAreBounded, Row, Table, Log, Posted, added, table_of, MessageText, ContactText, Call, found}
use Rattle.fork_call.proofs.Common.{nth_branch, rows_of, Branch, Posts, call_tag, table_added, due_of, moments_of, scheduled, IsTimedBut, row_moment, retimed, timed}
use Rattle.std.proofs.lemmas.Option.{slice_get_past}
use Rattle.std.proofs.lemmas.List.{length-replicate}
use Rattle.fork_model.specs.Core.{core_next, core_offered, is_full}
use Rattle.fork_model.specs.Sources as sources
use Rattle.fork_model.specs.Steps.{IsWithin}
use Rattle.fork_model.specs.Log.{core_of}
use Rattle.fork_call.specs.inner.Scheduled.{rows_in}
use Rattle.fork_call.specs.inner.Timing.{row_list, timed_at, touched}
use Rattle.fork_call.proofs.Retimed.{length_moments, posts_timed, timed_at_once}
use Rattle.fork_call.proofs.Touching.{Touches}

-- ---- lists

same_items : {A : Type 0} → (xs ys : List A) → length xs ≡ length ys → ((k : ℕ) → k < length xs → slice_get xs k ≡ slice_get ys k) → xs ≡ ys
same_items [] [] e h = refl
same_items [] (y ∷ ys) e h = absurd cc
same_items (x ∷ xs) [] e h = absurd cc
same_items (x ∷ xs) (y ∷ ys) e h =
    let first : Some x ≡ Some y = h zero (omega arith) in
    let head : x ≡ y = cc in
    let size : length xs ≡ length ys = cc in
    let rest : xs ≡ ys = same_items xs ys size (λ k lt. h (suc k) (omega arith)) in
    rw (head, rest) refl

length_take : {A : Type 0} → (n : ℕ) (xs : List A) → n ≤ length xs → length (take n xs) ≡ n
length_take zero xs le = refl
length_take (suc n) [] le = absurd (omega arith)
length_take (suc n) (x ∷ xs) le = ap suc (length_take n xs (omega arith))

get_take : {A : Type 0} → (n : ℕ) (xs : List A) (k : ℕ) → k < n → slice_get (take n xs) k ≡ slice_get xs k
get_take zero xs k lt = absurd (omega arith)
get_take (suc n) [] k lt = refl
get_take (suc n) (x ∷ xs) zero lt = refl
get_take (suc n) (x ∷ xs) (suc k) lt = get_take n xs k (omega arith)

get_before : {A : Type 0} → (xs ys : List A) (k : ℕ) → k < length xs → slice_get (xs ++ ys) k ≡ slice_get xs k
get_before [] ys k lt = absurd (omega arith)
get_before (x ∷ xs) ys zero lt = refl
get_before (x ∷ xs) ys (suc k) lt = get_before xs ys k (omega arith)

get_padding : {A : Type 0} → (xs : List A) (a : A) (p k : ℕ) → length xs ≤ k → k < length xs + p → slice_get (xs ++ replicate p a) k ≡ Some a
get_padding [] a zero k le lt = absurd (omega arith)
get_padding [] a (suc p) zero le lt = refl
get_padding [] a (suc p) (suc k) le lt = get_padding [] a p k (omega arith) (omega arith)
get_padding (x ∷ xs) a p zero le lt = absurd (omega arith)
get_padding (x ∷ xs) a p (suc k) le lt = get_padding xs a p k (omega arith) (omega arith)

get_last : {A : Type 0} → (xs : List A) (a : A) → slice_get (xs ++ a ∷ []) (length xs) ≡ Some a
get_last [] a = refl
get_last (x ∷ xs) a = get_last xs a

length_set : {A : Type 0} → (xs : List A) (n : ℕ) (a : A) → length (slice_set xs n a) ≡ length xs
length_set [] n a = refl
length_set (x ∷ xs) zero a = refl
length_set (x ∷ xs) (suc n) a = ap suc (length_set xs n a)

set_here : {A : Type 0} → (xs : List A) (n : ℕ) (a : A) → n < length xs → slice_get (slice_set xs n a) n ≡ Some a
set_here [] n a lt = absurd (omega arith)
set_here (x ∷ xs) zero a lt = refl
set_here (x ∷ xs) (suc n) a lt = set_here xs n a (omega arith)

set_beside : {A : Type 0} → (xs : List A) (n k : ℕ) (a : A) → (k ≡ n → ⊥) → slice_get (slice_set xs n a) k ≡ slice_get xs k
set_beside [] n k a d = refl
set_beside (x ∷ xs) zero zero a d = absurd (d refl)
set_beside (x ∷ xs) zero (suc k) a d = refl
set_beside (x ∷ xs) (suc n) zero a d = refl
set_beside (x ∷ xs) (suc n) (suc k) a d = set_beside xs n k a (λ e. d (ap suc e))

same_or_not : (k n : ℕ) → (k ≡ n) ⊎ (k ≡ n → ⊥)
same_or_not zero zero = inl refl
same_or_not zero (suc n) = inr (λ e. absurd cc)
same_or_not (suc k) zero = inr (λ e. absurd cc)
same_or_not (suc k) (suc n) = elim (same_or_not k n) [ inl e ↦ inl (ap suc e) | inr d ↦ inr (λ e. d (let h : k ≡ n = cc in h)) ]

in_either : (xs ys : List ℕ) (k : ℕ) → (IsNumberIn (xs ++ ys) k → ⊥) → (IsNumberIn xs k → ⊥) × (IsNumberIn ys k → ⊥)
in_either [] ys k none = ((λ h. absurd (let e = h.1 in cc)), none)
in_either (x ∷ xs) ys k none =
    let rest = in_either xs ys k (λ h. none (suc h.0, h.1)) in
    (first rest.0, rest.1)
  where
    first : (IsNumberIn xs k → ⊥) → IsNumberIn (x ∷ xs) k → ⊥
    first later (zero, e) = none (zero, e)
    first later (suc place, e) = later (place, e)

-- ---- rows that are timed anew

-- the length stays
length_timed : (call : Call) (rows : List ℕ) (moments : List (Option ℕ)) → length (timed call rows moments) ≡ length moments
length_timed call [] moments = refl
length_timed call (n ∷ rows) moments = length_timed call rows (timed_at call moments n) ∙ length_set moments n (row_moment call n)

-- a row has its moment where it had it before, or was timed
timed_has : (call : Call) (rows : List ℕ) (moments : List (Option ℕ)) (k : ℕ) → k < length moments
    → ((IsNumberIn rows k → ⊥) → slice_get moments k ≡ Some (row_moment call k))
    → slice_get (timed call rows moments) k ≡ Some (row_moment call k)
timed_has call [] moments k lt had = had (λ h. absurd (let e = h.1 in cc))
timed_has call (n ∷ rows) moments k lt had =
    let size : length (timed_at call moments n) ≡ length moments = length_set moments n (row_moment call n) in
    timed_has call rows (timed_at call moments n) k (omega (arith, size)) now_has
  where
    not_first : (k ≡ n → ⊥) → (IsNumberIn rows k → ⊥) → IsNumberIn (n ∷ rows) k → ⊥
    not_first d later (zero, e) = d (let same : n ≡ k = cc in sym same)
    not_first d later (suc place, e) = later (place, e)

    now_has : (IsNumberIn rows k → ⊥) → slice_get (timed_at call moments n) k ≡ Some (row_moment call k)
    now_has later = elim (same_or_not k n) [
      | inl e ↦
          let P : ℕ → Type 0 = λ x. slice_get (timed_at call moments n) x ≡ Some (row_moment call x) in
          let Q : ℕ → Type 0 = λ x. x < length moments in
          subst P (sym e) (set_here moments n (row_moment call n) (subst Q e lt))
      | inr d ↦ set_beside moments n k (row_moment call n) d ∙ had (not_first d later)
    ]

-- ---- the moments of a call

moments_have : (rows : List Row) (branches : List (Option Branch)) (k : ℕ) → k < length rows
    → slice_get (moments_of rows branches) k ≡ Some (due_of (slice_get rows k) (found (slice_get branches k)))
moments_have [] branches k lt = absurd (omega arith)
moments_have (row ∷ rows) [] zero lt = refl
moments_have (row ∷ rows) (None ∷ branches) zero lt = refl
moments_have (row ∷ rows) (Some branch ∷ branches) zero lt = refl
moments_have (row ∷ rows) [] (suc k) lt = moments_have rows [] k (omega arith)
moments_have (row ∷ rows) (branch ∷ branches) (suc k) lt = moments_have rows branches k (omega arith)

pub scheduled_has : (call : Call) (k : ℕ) → k < length (rows_of call) → slice_get (scheduled call) k ≡ Some (row_moment call k)
scheduled_has call k lt = moments_have (rows_of call) call.branches k lt

pub length_scheduled : (call : Call) → length (scheduled call) ≡ length (rows_of call)
length_scheduled call = length_moments (rows_of call) call.branches

-- a moment that stands in the schedule is that of its row
pub scheduled_is : (call : Call) (k : ℕ) (moment : Option ℕ) → slice_get (scheduled call) k ≡ Some moment → row_moment call k ≡ moment
scheduled_is call k moment is =
    let below : k < length (scheduled call) = slice_get_within (scheduled call) k moment is in
    let size = length_scheduled call in
    let has = scheduled_has call k (omega (arith, size, below)) in
    let same : Some (row_moment call k) ≡ Some moment = sym has ∙ is in
    cc

-- ---- an event more

core_added : (log : Log) (tag : ℕ) (event : Event) (reply : Reply) → core_of (added log tag event reply) ≡ core_next (core_of log) event
core_added log tag event reply =
    let count : length (log.history ++ record { tag = tag; event = event } ∷ []) ≡ suc (length log.history) =
    let e = length-append {A = Posted} log.history (record { tag = tag; event = event } ∷ []) in omega (arith, e) in
    let t = table_added log tag event reply in
    ap (λ (x : Table). record { table = x; taken = length (log.history ++ record { tag = tag; event = event } ∷ []) }) t
    ∙ ap (λ (x : ℕ). record { table = next (table_of log) event (length log.history); taken = x }) count

offered_next : (core : Core) (event : Event) → is_full core event ≡ false → core_offered core event ≡ core_next core event
offered_next core event e = rw e refl

-- ---- what was posted is bounded

log_posted : (mid new : Call) (event : Event) (contacts : List ContactText) (response : Option MessageText) (reply : Reply)
    → Posts mid event contacts response reply new → new.log ≡ added mid.log call_tag event reply
log_posted mid new event contacts response reply posts = ap (λ (x : Call). x.log) posts.follows

pub still_within : (bounded : PositionsAreBounded) (call new : Call) (row : Option ℕ) (nothing_due : Type 0) → Touches call new row nothing_due → IsWithin (core_of call.log) → IsWithin (core_of new.log)
still_within bounded call new row nothing_due (inl beside) within =
    let P : Log → Type 0 = λ l. IsWithin (core_of l) in
    subst P (sym beside.log) within
still_within bounded call new row nothing_due (inr posted) within =
    let P : Log → Type 0 = λ l. IsWithin (core_of l) in
    let Q : Core → Type 0 = λ c. IsWithin c in
    let before : IsWithin (core_of posted.mid.log) = subst P (sym posted.beside.log) within in
    let log = posted.mid.log in
    let is : core_offered (core_of log) posted.event ≡ core_of (added log call_tag posted.event posted.reply) =
    offered_next (core_of log) posted.event posted.posts.taken ∙ sym (core_added log call_tag posted.event posted.reply) in
    subst P (sym (log_posted posted.mid new posted.event posted.contacts posted.response posted.reply posted.posts))
    (subst Q is (bounded (core_of log) posted.event before))

-- ---- the rows of a step

found_some : (m : Option ℕ) → found (Some m) ≡ m
found_some None = refl
found_some (Some at) = refl

named_in : (event : Event) (k : ℕ) → row_named event ≡ Some k → IsNumberIn (row_list (row_named event)) k
named_in event k e = let P : Option ℕ → Type 0 = λ row. IsNumberIn (row_list row) k in subst P (sym e) (zero, refl)

-- a row that an event neither names nor starts nor cancels keeps its moment, and a new one has none yet
module _ (left : OthersAreLeft) (exact : BecameIsExact) (call new : Call) (event : Event) (contacts : List ContactText) (response : Option MessageText) (reply : Reply)
    (sized : length call.branches ≡ length (rows_of call)) (posts : Posts call event contacts response reply new) where
  event_leaves : (k : ℕ) → (row_named event ≡ Some k → ⊥) → (IsNumberIn reply.started k → ⊥) → (IsNumberIn reply.cancelled k → ⊥)
      → found (slice_get (scheduled call) k) ≡ row_moment new k
  event_leaves k other started cancelled =
      let first = timed_at_once call sized in
      let rows = row_list (row_named event) in
      let but : IsTimedBut call rows (scheduled call) = record { timed = λ n free. first.timed n (λ h. absurd (let e = h.1 in cc)) } in
      (posts_timed left exact call new event contacts response reply rows (scheduled call) sized posts (named_in event) but).timed k
      (λ h. either_not (row_named event) other started cancelled h)
    where
      in_more : (xs ys : List ℕ) → IsNumberIn (xs ++ ys) k → IsNumberIn xs k ⊎ IsNumberIn ys k
      in_more [] ys h = inr h
      in_more (x ∷ xs) ys (zero, e) = inl (zero, e)
      in_more (x ∷ xs) ys (suc place, e) = elim (in_more xs ys (place, e)) [ inl h ↦ inl (suc h.0, h.1) | inr h ↦ inr h ]

      both_not : (IsNumberIn reply.started k → ⊥) → (IsNumberIn reply.cancelled k → ⊥) → IsNumberIn (reply.started ++ reply.cancelled) k → ⊥
      both_not s c h = elim (in_more reply.started reply.cancelled h) [ inl a ↦ s a | inr b ↦ c b ]

      either_not : (row : Option ℕ) → (row ≡ Some k → ⊥) → (IsNumberIn reply.started k → ⊥) → (IsNumberIn reply.cancelled k → ⊥)
          → IsNumberIn (row_list row ++ (reply.started ++ reply.cancelled)) k → ⊥
      either_not None o s c h = both_not s c h
      either_not (Some n) o s c (zero, e) = o e
      either_not (Some n) o s c (suc place, e) = both_not s c (place, e)

-- without contacts there are no more rows
pub no_more_rows : (none : sources.AddsNoRow) (call new : Call) (row : Option ℕ) (nothing_due : Type 0) → Touches call new row nothing_due → nothing_due → length (rows_of new) ≡ length (rows_of call)
no_more_rows none call new row nothing_due (inl beside) q = ap (λ (l : Log). length (table_of l).rows) beside.log
no_more_rows none call new row nothing_due (inr p) q =
    ap (λ (l : Log). length (table_of l).rows) (log_posted p.mid new p.event p.contacts p.response p.reply p.posts)
    ∙ ap (λ (t : Table). length t.rows) (table_added p.mid.log call_tag p.event p.reply)
    ∙ none (table_of p.mid.log) p.event (length p.mid.log.history) (p.plain q)
    ∙ ap (λ (l : Log). length (table_of l).rows) p.beside.log

row_other : (row : Option ℕ) (k : ℕ) → (IsNumberIn (row_list row) k → ⊥) → row ≡ Some k → ⊥
row_other None k none e = absurd cc
row_other (Some n) k none e = none (zero, e)

module _ (left : OthersAreLeft) (exact : BecameIsExact) (call new : Call) (row : Option ℕ) (nothing_due : Type 0) (p : ℕ)
    (sized : length call.branches ≡ length (rows_of call)) (replied : length call.log.replies ≡ length call.log.history)
    (room : length (rows_of new) ≤ length (rows_of call) + p) where
  abbrev padded : List (Option ℕ)
  padded = scheduled call ++ replicate p None

  abbrev cut : List (Option ℕ)
  cut = take (length (rows_of new)) padded

  length_cut : length cut ≡ length (rows_of new)
  length_cut =
      let a = length-append {A = Option ℕ} (scheduled call) (replicate p None) in
      let b = length_scheduled call in
      let c : length (replicate {A = Option ℕ} p None) ≡ p = length-replicate p None in
      length_take (length (rows_of new)) padded (omega (arith, a, b, c, room))

  -- before the rows are timed anew
  cut_old : (k : ℕ) → k < length (rows_of new) → k < length (rows_of call) → slice_get cut k ≡ Some (row_moment call k)
  cut_old k lt below =
      let b = length_scheduled call in
      get_take (length (rows_of new)) padded k lt ∙ get_before (scheduled call) (replicate p None) k (omega (arith, b)) ∙ scheduled_has call k below

  cut_new : (k : ℕ) → k < length (rows_of new) → length (rows_of call) ≤ k → slice_get cut k ≡ Some None
  cut_new k lt above =
      let b = length_scheduled call in
      get_take (length (rows_of new)) padded k lt ∙ get_padding (scheduled call) None p k (omega (arith, b)) (omega (arith, b, room))

  -- a row that the step does not touch has its moment as before
  untouched : Touches call new row nothing_due → (k : ℕ) → k < length (rows_of new) → (IsNumberIn (touched new row (length call.log.history)) k → ⊥)
      → slice_get cut k ≡ Some (row_moment new k)
  untouched (inl beside) k lt other =
      let rows : rows_of new ≡ rows_of call = ap (λ (l : Log). (table_of l).rows) beside.log in
      let below : k < length (rows_of call) = let e = ap (λ (rs : List Row). length rs) rows in omega (arith, e, lt) in
      let apart = row_other row k (in_either (row_list row) (rows_in (slice_get new.log.replies (length call.log.history))) k other).0 in
      let same : row_moment new k ≡ row_moment call k =
      ap (λ (rs : List Row). due_of (slice_get rs k) (nth_branch new k)) rows ∙ ap (due_of (slice_get (rows_of call) k)) (beside.branches k apart) in
      cut_old k lt below ∙ ap (λ (m : Option ℕ). Some m) (sym same)
  untouched (inr posted) k lt other =
      let mid = posted.mid in
      let log : new.log ≡ added mid.log call_tag posted.event posted.reply = log_posted mid new posted.event posted.contacts posted.response posted.reply posted.posts in
      let replies : new.log.replies ≡ call.log.replies ++ posted.reply ∷ [] =
      ap (λ (l : Log). l.replies) log ∙ ap (λ (l : Log). l.replies ++ posted.reply ∷ []) posted.beside.log in
      let there : slice_get new.log.replies (length call.log.history) ≡ Some posted.reply =
      ap (λ (rs : List Reply). slice_get rs (length call.log.history)) replies
      ∙ ap (slice_get (call.log.replies ++ posted.reply ∷ [])) (sym replied)
      ∙ get_last call.log.replies posted.reply in
      let N : Option Reply → Type 0 = λ r. IsNumberIn (row_list row ++ rows_in r) k → ⊥ in
      let state = in_either (row_list row) (rows_in (Some posted.reply)) k (subst N there other) in
      let both = in_either posted.reply.started posted.reply.cancelled k state.1 in
      let apart = row_other row k state.0 in
      let rows : rows_of mid ≡ rows_of call = ap (λ (l : Log). (table_of l).rows) posted.beside.log in
      let sizes : length (rows_of mid) ≡ length (rows_of call) = ap (λ (rs : List Row). length rs) rows in
      let branches : length mid.branches ≡ length (rows_of mid) = posted.beside.size ∙ sized ∙ sym sizes in
      let leaves = event_leaves left exact mid new posted.event posted.contacts posted.response posted.reply branches posted.posts k (posted.named k apart) both.0 both.1 in
      elim (cases_lt k (length (rows_of call))) [
        | inl below ↦
            let kept : row_moment mid k ≡ row_moment new k =
            sym (found_some (row_moment mid k)) ∙ sym (ap found (scheduled_has mid k (omega (arith, sizes, below)))) ∙ leaves in
            let same : row_moment mid k ≡ row_moment call k =
            ap (λ (rs : List Row). due_of (slice_get rs k) (nth_branch mid k)) rows ∙ ap (due_of (slice_get (rows_of call) k)) (posted.beside.branches k apart) in
            cut_old k lt below ∙ ap (λ (m : Option ℕ). Some m) (sym same ∙ kept)
        | inr above ↦
            let past = length_scheduled mid in
            let none : row_moment new k ≡ None = sym leaves ∙ ap found (slice_get_past (scheduled mid) k (omega (arith, past, sizes, above))) in
            cut_new k lt above ∙ ap (λ (m : Option ℕ). Some m) (sym none)
      ]

  pub retimed_is : Touches call new row nothing_due → retimed new row (length call.log.history) padded ≡ scheduled new
  retimed_is touches =
      let rows = touched new row (length call.log.history) in
      let size : length (timed new rows cut) ≡ length (rows_of new) = length_timed new rows cut ∙ length_cut in
      let all = length_scheduled new in
      same_items (timed new rows cut) (scheduled new) (size ∙ sym all)
      (λ k lt.
      let below : k < length (rows_of new) = omega (arith, size, lt) in
      let cut_is = length_cut in
      timed_has new rows cut k (omega (arith, cut_is, below)) (untouched touches k below) ∙ sym (scheduled_has new k below))

-- ---- each row in turn

-- one more row has its moment
pub take_more : (call : Call) (n : ℕ) → n < length (rows_of call) → take n (scheduled call) ++ row_moment call n ∷ [] ≡ take (n + 1) (scheduled call)
take_more call n lt = more (scheduled call) n (row_moment call n) (scheduled_has call n lt) ∙ ap (λ (k : ℕ). take k (scheduled call)) (let e : suc n ≡ n + 1 = omega arith in e)
  where
    more : (xs : List (Option ℕ)) (n : ℕ) (x : Option ℕ) → slice_get xs n ≡ Some x → take n xs ++ x ∷ [] ≡ take (suc n) xs
    more [] n x there = absurd cc
    more (y ∷ xs) zero x there =
        let same : y ≡ x = cc in
        rw same refl
    more (y ∷ xs) (suc n) x there = ap (λ (ms : List (Option ℕ)). y ∷ ms) (more xs n x there)

-- at the end all have
pub take_whole : (call : Call) (n : ℕ) → n ≡ length (rows_of call) → take n (scheduled call) ≡ scheduled call
take_whole call n e = ap (λ (k : ℕ). take k (scheduled call)) (e ∙ sym (length_scheduled call)) ∙ whole (scheduled call)
  where
    whole : (xs : List (Option ℕ)) → take (length xs) xs ≡ xs
    whole [] = refl
    whole (x ∷ xs) = ap (λ (ms : List (Option ℕ)). x ∷ ms) (whole xs)
