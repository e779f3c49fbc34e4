-- Each row that may start is met on the way up from a row that ended.
use Rattle.fork_tree.proofs.Common.{◌≡◌, ℕ, zero, suc, ◌+◌, ◌<◌, ◌≤◌, ◌⊎◌, inl, inr, Bool, true, false, IsTrue, List, [], ◌∷◌, ◌++◌, map, Option, Some, None, slice_get, refl, ap, sym, subst, ◌∙◌, arith, if◌then◌else◌, eqb, Row, is_open, is_idle}
use Rattle.fork_tree.proofs.Common.{is_ended, is_row, goes_before, parent_ended, and_left, MayStart, may_start_facts, may_start_of, or_cases, option_same, NewRow, NodePlace, Entry, rows_of, AreOlder, plain_state, has_ended, open_rows, is_unended}
use Rattle.fork_tree.proofs.Common.{with_state, append-nil, waiting_row, parent_of, from_parent, leads, open_below, never_tried, closed_row, IsOnWay, AreMet, IsKnown, AreKnown, NoneUnder, eqb-true, idle_not_ended, slice_get_within, there_at}
use Rattle.fork_tree.proofs.Common.{one_there, false_from_ne_true, AreBelow, common_steps}
use Rattle.fork_model.specs.Table.{State, Idle}
use Rattle.fork_model.specs.Waiting.{may_start}
use Rattle.fork_model.proofs.laws.ChangeLemmas.{Found, found}
use Rattle.fork_tree.specs.declared.row.State as row_state
use Rattle.fork_tree.proofs.Placed.{ended_plain}
use Rattle.fork_tree.specs.Search.{IsMet}
use Rattle.fork_tree.proofs.Lines.{leads_enough, AreOlderRows, IsBefore, before_found, up_in, none_below, lies_here}
use Rattle.fork_tree.proofs.GroupNumbers.{older_rows}
use Rattle.fork_tree.proofs.Known.{differ, StandsSo, KeepsPlaces, leads_more, up_later, Moves, may_back, IsStep, kept, changed, places_kept, top_parent, new_rows_below, ended_busy, none_new, some_row}

-- ---- the ways stay

way_kept : (rows later : List Row) (x parent : Option ℕ) → KeepsPlaces rows later → IsOnWay rows x parent → IsOnWay later x parent
way_kept rows later None parent keeps h = h
way_kept rows later (Some n) parent keeps (inl h) = inl h
way_kept rows later (Some n) parent keeps (inr h) =
    let s : StandsSo later h.number h.row = keeps h.number h.row h.there in
    grind (arith, common_steps, up_in rows, up_in later, up_later rows later keeps, leads_more)

-- the way up from a row is that below it, and that from the row above
pub way_up : (rows : List Row) (n : ℕ) (row : Row) (parent : Option ℕ) → AreOlderRows rows → slice_get rows n ≡ Some row → IsOnWay rows (Some n) parent
    → (parent ≡ Some n) ⊎ IsOnWay rows row.parent parent
way_up rows n row parent older is (inl h) = inl h
way_up rows n row parent older is (inr h) = inr (at n refl h.below)
  where
    here : eqb n h.number ≡ true → IsOnWay rows row.parent parent
    here e =
        let same : h.row ≡ row = one_there rows n h.row row (ap (slice_get rows) (eqb-true n h.number e) ∙ h.there) is in
        own row.parent (sym h.beside ∙ ap (λ (r : Row). r.parent) same)
      where
        own : (o : Option ℕ) → parent ≡ o → IsOnWay rows o parent
        own None f = f
        own (Some m) f = inl f

    up : (s : ℕ) (o : Option ℕ) → row.parent ≡ o → from_parent o (leads (up_in rows) h.number s) ≡ true → IsOnWay rows o parent
    up s None f k = absurd cc
    up s (Some m) f k =
        inr (record { number = h.number; row = h.row; there = h.there; beside = h.beside; below = leads_enough (up_in rows) h.number s m m older (omega arith) k })

    at : (s : ℕ) → n ≡ s → leads (up_in rows) h.number s n ≡ true → IsOnWay rows row.parent parent
    at zero e k = here k
    at (suc s) e k =
        elim (or_cases (eqb n h.number) (from_parent (up_in rows n) (leads (up_in rows) h.number s)) k)
        [ inl f ↦ here f | inr f ↦ up s row.parent refl (ap (λ o. from_parent o (leads (up_in rows) h.number s)) (sym (ap parent_of is)) ∙ f) ]

met_kept : (rows later : List Row) (recent : List (Option ℕ)) (parent : Option ℕ) → KeepsPlaces rows later → IsMet rows recent parent → IsMet later recent parent
met_kept rows later [] parent keeps h = h
met_kept rows later (x ∷ recent) parent keeps (inl h) = inl (way_kept rows later x parent keeps h)
met_kept rows later (x ∷ recent) parent keeps (inr h) = inr (met_kept rows later recent parent keeps h)

met_more : (rows : List Row) (recent : List (Option ℕ)) (x parent : Option ℕ) → IsMet rows recent parent → IsMet rows (recent ++ x ∷ []) parent
met_more rows [] x parent h = absurd h
met_more rows (y ∷ recent) x parent (inl h) = inl h
met_more rows (y ∷ recent) x parent (inr h) = inr (met_more rows recent x parent h)

met_last : (rows : List Row) (recent : List (Option ℕ)) (x parent : Option ℕ) → IsOnWay rows x parent → IsMet rows (recent ++ x ∷ []) parent
met_last rows [] x parent h = inl h
met_last rows (y ∷ recent) x parent h = inr (met_last rows recent x parent h)

met_cases : (rows : List Row) (recent : List (Option ℕ)) (x parent : Option ℕ) → IsMet rows (recent ++ x ∷ []) parent → IsMet rows recent parent ⊎ IsOnWay rows x parent
met_cases rows [] x parent (inl h) = inr h
met_cases rows [] x parent (inr h) = absurd h
met_cases rows (y ∷ recent) x parent (inl h) = inl (inl h)
met_cases rows (y ∷ recent) x parent (inr h) = elim (met_cases rows recent x parent h) [ inl g ↦ inl (inr g) | inr g ↦ inr g ]

-- ---- at first, at last, and where nothing is found on a way

pub met_new : (rows : List Row) (new_rows : List NewRow) → rows ≡ map (waiting_row None) new_rows → AreMet rows (None ∷ [])
met_new rows new_rows made k row is may = inl (top_parent new_rows k row (ap (λ (x : List Row). slice_get x k) (sym made) ∙ is))

pub met_pop : (rows : List Row) (recent : List (Option ℕ)) (x : Option ℕ) → AreMet rows (recent ++ x ∷ [])
    → ((parent : Option ℕ) → IsOnWay rows x parent → NoneUnder rows parent) → AreMet rows recent
met_pop rows recent x met none k row is may =
    elim (met_cases rows recent x row.parent (met k row is may)) [ inl h ↦ h | inr h ↦ absurd (none row.parent h k row is refl may) ]

pub none_met : (rows : List Row) → AreMet rows [] → (k : ℕ) (row : Row) → slice_get rows k ≡ Some row → may_start rows row ≡ false
none_met rows met k row is = false_from_ne_true (may_start rows row) (λ may. met k row is may)

-- ---- one row comes into another state, and new ones may come below it

-- a row that may start later might before, or is met on the way up from this one
met_step : (rows later fresh : List Row) (n : ℕ) (rn : Row) (s : State) (recent : List (Option ℕ)) → IsStep rows later fresh n rn s → is_idle s ≡ false → AreMet rows recent
    → (k : ℕ) (row : Row) → slice_get later k ≡ Some row → may_start later row ≡ true
    → IsMet later recent row.parent ⊎ ((is_ended s ≡ true) × IsOnWay later (Some n) row.parent)
met_step rows later fresh n rn s recent step busy met k row is e =
    go (may_start_facts later row e) (found rows fresh n s k row (ap (λ (x : List Row). slice_get x k) (sym step.made) ∙ is))
  where
    keeps : KeepsPlaces rows later
    keeps = places_kept rows later fresh n rn s step

    Met : Type 0
    Met = IsMet later recent row.parent ⊎ ((is_ended s ≡ true) × IsOnWay later (Some n) row.parent)

    -- it stands below the row
    below : MayStart later row → row.parent ≡ Some n → Met
    below may up =
        inr (sym (ap (is_row is_ended) (changed rows later fresh n rn s step)) ∙ sym (ap (parent_ended later) up) ∙ may.parent, inl up)

    moves : ((is_ended s ≡ true) → goes_before rows rn row ≡ true → ⊥) → Moves rows later row
    moves free m other there =
        elim (kept rows later fresh n rn s step m other there) [
          | inl h ↦ inl h
          | inr h ↦ inr (record {
            state = s;
            there = h.1;
            busy = busy;
            free = λ goes ends.
                (let same : other ≡ rn = one_there rows n other rn (ap (slice_get rows) (sym h.0) ∙ there) step.there in
                absurd (free ends (subst (λ (r : Row). goes_before rows r row ≡ true) same goes)));
          })
        ]

    before : slice_get rows k ≡ Some row → MayStart later row → parent_ended rows row.parent ≡ true → ((is_ended s ≡ true) → goes_before rows rn row ≡ true → ⊥) → Met
    before here may parent free =
        inl (met_kept rows later recent row.parent keeps
        (met k row here (may_start_of rows row (may_back rows later row step.older step.olds (moves free) parent may))))

    over : goes_before rows rn row ≡ true → IsOnWay later (Some n) row.parent
    over goes =
        let b : IsBefore rows row n = before_found rows row rn n step.older step.there goes in
        way_kept rows later (Some n) row.parent keeps
        (inr (record { number = b.number; row = b.first; there = b.there; beside = option_same b.first.parent row.parent (and_left _ _ b.earlier); below = b.below }))

    split : slice_get rows k ≡ Some row → MayStart later row → parent_ended rows row.parent ≡ true → (a b : Bool) → is_ended s ≡ a → goes_before rows rn row ≡ b → Met
    split here may parent true true e g = inr (e, over g)
    split here may parent true false e g = before here may parent (λ ends goes. differ (goes_before rows rn row) goes g)
    split here may parent false b e g = before here may parent (λ ends goes. differ (is_ended s) ends e)

    -- the row above it had ended before, or is this one
    parent : slice_get rows k ≡ Some row → MayStart later row → (p : Option ℕ) → row.parent ≡ p → Met
    parent here may None up = split here may (ap (parent_ended rows) up) (is_ended s) (goes_before rows rn row) refl refl
    parent here may (Some m) up =
        let above : (r : Row) × (slice_get rows m ≡ Some r) =
        there_at rows m (omega (arith, step.older k m (ap parent_of here ∙ up), slice_get_within rows k row here)) in
        elim (kept rows later fresh n rn s step m above.0 above.1) [
          | inl h ↦ split here may
              (ap (parent_ended rows) up ∙ ap (is_row is_ended) above.1 ∙ sym (ap (is_row is_ended) h) ∙ sym (ap (parent_ended later) up) ∙ may.parent)
              (is_ended s) (goes_before rows rn row) refl refl
          | inr h ↦ below may (up ∙ ap (λ (x : ℕ). Some x) h.0)
        ]

    go : MayStart later row → Found rows fresh n s k row → Met
    go may (inl h) = parent h may row.parent refl
    go may (inr (inl h)) = absurd (differ (is_idle s) (ap is_idle (sym h.1) ∙ may.idle) busy)
    go may (inr (inr h)) = below may (step.below h.0 row h.1).0

pub met_ended : (rows later fresh : List Row) (n : ℕ) (rn : Row) (s : State) (recent : List (Option ℕ)) → IsStep rows later fresh n rn s → is_idle s ≡ false → AreMet rows recent
    → AreMet later (recent ++ Some n ∷ [])
met_ended rows later fresh n rn s recent step busy met k row is may = grind (arith, common_steps, met_step rows later fresh n rn s recent step busy met k row is may, met_more, met_last)

pub met_set : (rows later : List Row) (n : ℕ) (rn : Row) (s : State) (recent : List (Option ℕ)) → IsStep rows later [] n rn s → is_idle s ≡ false → is_ended s ≡ false → AreMet rows recent
    → AreMet later recent
met_set rows later n rn s recent step busy on met k row is may = grind (arith, common_steps, met_step rows later [] n rn s recent step busy met k row is may, differ)

-- ---- a row that waits

pub idle_open : (rows : List Row) (k : ℕ) (row : Row) → AreOlderRows rows → slice_get rows k ≡ Some row → is_idle row.state ≡ true → open_below rows k ≡ 0 → ⊥
idle_open rows k row older is waits none = idle_not_ended row.state waits (none_below rows k k row none is (lies_here rows k older))

pub none_open : (rows : List Row) → open_rows rows ≡ 0 → (k : ℕ) (row : Row) → slice_get rows k ≡ Some row → may_start rows row ≡ false
none_open rows none k row is =
    false_from_ne_true (may_start rows row) (λ may. idle_not_ended row.state (may_start_facts rows row may).idle (ended rows k none is))
  where
    one : (b : Bool) (rest : ℕ) → (if b then 0 else 1) + rest ≡ 0 → (b ≡ true) × (rest ≡ 0)
    one true rest e = (refl, omega (arith, e))
    one false rest e = absurd (omega (arith, e))

    ended : (all : List Row) (i : ℕ) → open_rows all ≡ 0 → slice_get all i ≡ Some row → is_ended row.state ≡ true
    ended [] i e at = absurd cc
    ended (x ∷ all) zero e at = let same : x ≡ row = cc in ap (λ (r : Row). is_ended r.state) (sym same) ∙ (one (is_ended x.state) (open_rows all) e).0
    ended (x ∷ all) (suc i) e at = ended all i (one (is_ended x.state) (open_rows all) e).1 at

-- ---- the table closed

pub met_closed : (rows later : List Row) → later ≡ map closed_row rows → AreMet later []
met_closed rows later made k row is may = closed rows k (ap (λ (x : List Row). slice_get x k) (sym made) ∙ is) (may_start_facts later row may).idle
  where
    busy : (s : State) → is_idle (never_tried s) ≡ true → ⊥
    busy Idle e = cc
    busy s e = cc

    closed : (rows : List Row) (k : ℕ) → slice_get (map closed_row rows) k ≡ Some row → is_idle row.state ≡ true → ⊥
    closed [] k is e = absurd cc
    closed (x ∷ rows) zero is e = let same : closed_row x ≡ row = cc in busy x.state (ap (λ (r : Row). is_idle r.state) same ∙ e)
    closed (x ∷ rows) (suc k) is e = closed rows k is e

-- ---- what is known of the numbers

pub known_more : (m n : ℕ) (recent : List (Option ℕ)) → m ≤ n → AreKnown m recent → AreKnown n recent
known_more m n [] le h = tt
known_more m n (None ∷ recent) le h = (tt, known_more m n recent le h.1)
known_more m n (Some k ∷ recent) le h = ((let l : k < m = h.0 in omega (arith, l, le)), known_more m n recent le h.1)

pub known_last : (n : ℕ) (recent : List (Option ℕ)) (x : Option ℕ) → AreKnown n recent → IsKnown n x → AreKnown n (recent ++ x ∷ [])
known_last n [] x h k = (k, tt)
known_last n (y ∷ recent) x h k = (h.0, known_last n recent x h.1 k)

pub known_pop : (n : ℕ) (recent : List (Option ℕ)) (x : Option ℕ) → AreKnown n (recent ++ x ∷ []) → AreKnown n recent × IsKnown n x
known_pop n [] x h = (tt, h.0)
known_pop n (y ∷ recent) x h = let rest = known_pop n recent x h.1 in ((h.0, rest.0), rest.1)

-- ---- of a tree

tree_step : (all more : List NodePlace) (root new : List Entry) (now fresh : List Row) (n : ℕ) (s : row_state.State) (test : State → Bool) → AreOlder all
    → AreOlder more → rows_of all root ≡ now
    → IsTrue (is_row test (slice_get now n)) → rows_of more new ≡ with_state (rows_of all root) n (plain_state s) ++ fresh
    → AreBelow (Some n) (plain_state s) fresh
    → (rn : Row) × IsStep (rows_of all root) (rows_of more new) fresh n rn (plain_state s)
tree_step all more root new now fresh n s test older olds v there made below = grind (arith, some_row, older_rows)

pub tree_met_set : (all : List NodePlace) (root new : List Entry) (now : List Row) (n : ℕ) (s : row_state.State) (recent : List (Option ℕ)) → AreOlder all → rows_of all root ≡ now
    → AreMet (rows_of all root) recent → IsTrue (is_row is_unended (slice_get now n)) → rows_of all new ≡ with_state (rows_of all root) n (plain_state s) → has_ended s ≡ false
    → is_idle (plain_state s) ≡ false → AreMet (rows_of all new) recent
tree_met_set all root new now n s recent older v met there made on busy =
    let step =
    tree_step all all root new now [] n s is_unended older older v there (made ∙ sym (append-nil (with_state (rows_of all root) n (plain_state s))))
    (λ k row is. absurd (none_new k row is)) in
    met_set (rows_of all root) (rows_of all new) n step.0 (plain_state s) recent step.1 busy (ended_plain s ∙ on) met

pub tree_met_end : (all more : List NodePlace) (root new : List Entry) (now : List Row) (new_rows : List NewRow) (n : ℕ) (s : row_state.State) (recent : List (Option ℕ)) → AreOlder all → AreOlder more
    → rows_of all root ≡ now → AreMet (rows_of all root) recent → IsTrue (is_row is_open (slice_get now n))
    → rows_of more new ≡ with_state (rows_of all root) n (plain_state s) ++ map (waiting_row (Some n)) new_rows → has_ended s ≡ true → AreMet (rows_of more new) (recent ++ Some n ∷ [])
tree_met_end all more root new now new_rows n s recent older olds v met there made ends =
    let step =
    tree_step all more root new now (map (waiting_row (Some n)) new_rows) n s is_open older olds v there made
    (new_rows_below n new_rows (plain_state s) (ended_plain s ∙ ends)) in
    grind (arith, common_steps, met_ended (rows_of all root) (rows_of more new) (map (waiting_row (Some n)) new_rows) n step.0 (plain_state s) recent step.1, ended_plain s, ended_busy)

pub with_same : (rows : List Row) (n : ℕ) → is_row is_idle (slice_get rows n) ≡ true → rows ≡ with_state rows n Idle
with_same [] n e = refl
with_same (r ∷ rs) zero e = grind arith
with_same (r ∷ rs) (suc n) e = ap (λ x. r ∷ x) (with_same rs n e)
