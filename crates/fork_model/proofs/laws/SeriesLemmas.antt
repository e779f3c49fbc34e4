-- Why an event starts one group at most. In a settled table no group waits that may start. So a group that starts
-- waited for the row that the event ends, or stands below it. Then one line of rows, that row's, passes all groups
-- that start; of two under different parents the one would stand below what the other waits for.
use Rattle.fork_model.proofs.Common.{◌≡◌, ℕ, zero, suc, ◌+◌, Bool, true, false, List, [], ◌∷◌, ◌++◌, length, map, Option, Some, None, refl, ap, arith, ◌∙◌, sym, subst, cond, inl, inr, ◌⊎◌, length-append, slice_get, not, ◌&&◌, ◌==◌, nat_eq, option_eq}
use Rattle.fork_model.proofs.Common.{Kind, Row, Table, State, Trying, is_idle, is_trying, is_ended, is_row, parent_row, line_from, same_group, goes_before, parent_ended, may_start, with_state, change, closed_state, settled_state, settled_row}
use Rattle.fork_model.proofs.Common.{settled, next, IsSameTarget, IsInSeries}
use Rattle.fork_model.specs.Series.{IsStarted, OneGroupStarts, EventsKeepSeries, AnEventStartsOneGroup, GroupsStartWhole}
use Rattle.fork_model.proofs.laws.StepLemmas.{and_left, and_right, Goes, Extends, extends_row, extends_length, extends_settled, Onward, change_advances, next_of_change, next_of_stray}
use Rattle.fork_model.proofs.laws.ContactLemmas.{length-state}
use Rattle.fork_model.proofs.laws.WaitingLemmas.{MayStart, may_start_facts, may_start_of, waits_for, Passes, line_more, line_fuel, has_rows, not_above, one_group, one_parent, and_both, same_group_refl}
use Rattle.fork_model.proofs.laws.ChangeLemmas.{AreBelow, IsMove, IsClosing, change_is, Found, found, stays, changed_row}
use Rattle.fork_model.proofs.Common.{common_steps}

differ : {b : Bool} → b ≡ true → b ≡ false → ⊥
differ h k = cc

same_spot : (row : Row) (state : State) → IsSameTarget row (record row { state = state })
same_spot row state = record { key = refl; q = refl; place = refl; parent = refl; group = refl }

-- ---- what goes before goes before later on too

goes_more : (rows later : List Row) (a r s : Row) → Extends rows later → IsSameTarget r s → goes_before rows r a ≡ true → goes_before later s a ≡ true
goes_more rows later a r s ext same is = line_more (length rows) (length later) rows later a r s (extends_length rows later ext) ext same is

parent_ended_more : (rows later : List Row) (p : Option ℕ) → Extends rows later → parent_ended rows p ≡ true → parent_ended later p ≡ true
parent_ended_more rows later p ext e = grind (arith, extends_row)

-- ---- settling

pub settled_there : (t : Table) (rows : List Row) (m : ℕ) (row : Row) → slice_get rows m ≡ Some row → slice_get (map (settled_row t) rows) m ≡ Some (settled_row t row)
settled_there t [] m row is = absurd cc
settled_there t (x ∷ rows) zero row is = let same : x ≡ row = cc in ap (λ (r : Row). Some (settled_row t r)) same
settled_there t (x ∷ rows) (suc m) row is = settled_there t rows m row is

-- the row of which a settled row was made
abbrev pub SettledFrom : Table → List Row → ℕ → Row → Type 0
SettledFrom t rows m row = (r : Row) × (slice_get rows m ≡ Some r) × (settled_row t r ≡ row)

pub settled_from : (t : Table) (rows : List Row) (m : ℕ) (row : Row) → slice_get (map (settled_row t) rows) m ≡ Some row → SettledFrom t rows m row
settled_from t [] m row is = absurd cc
settled_from t (x ∷ rows) zero row is = (x, refl, let same : settled_row t x ≡ row = cc in same)
settled_from t (x ∷ rows) (suc m) row is = settled_from t rows m row is

pub settled_open : (t : Table) (row : Row) → t.closed ≡ false → settled_state t row ≡ cond (may_start t.rows row) Trying row.state
settled_open t row still = ap (λ (b : Bool). cond b (closed_state t.kind row.state) (cond (may_start t.rows row) Trying row.state)) still

idle_back : (start : Bool) (state : State) → is_idle (cond start Trying state) ≡ true → is_idle state ≡ true
idle_back start state e = grind arith

ended_back : (start : Bool) (state : State) → is_ended (cond start Trying state) ≡ true → is_ended state ≡ true
ended_back start state e = grind arith

was_idle : (t : Table) (row : Row) → t.closed ≡ false → is_idle (settled_state t row) ≡ true → is_idle row.state ≡ true
was_idle t row still e = idle_back (may_start t.rows row) row.state (ap is_idle (sym (settled_open t row still)) ∙ e)

was_ended : (t : Table) (row : Row) → t.closed ≡ false → is_ended (settled_state t row) ≡ true → is_ended row.state ≡ true
was_ended t row still e = ended_back (may_start t.rows row) row.state (ap is_ended (sym (settled_open t row still)) ∙ e)

parent_was_ended : (t : Table) (p : Option ℕ) → t.closed ≡ false → parent_ended (settled t).rows p ≡ true → parent_ended t.rows p ≡ true
parent_was_ended t None still e = refl
parent_was_ended t (Some n) still e = go (slice_get t.rows n) refl
  where
    none_there : (rows : List Row) (n : ℕ) → slice_get rows n ≡ None → slice_get (map (settled_row t) rows) n ≡ None
    none_there [] n is = refl
    none_there (x ∷ rows) zero is = absurd cc
    none_there (x ∷ rows) (suc n) is = none_there rows n is

    go : (o : Option Row) → slice_get t.rows n ≡ o → is_row is_ended (slice_get t.rows n) ≡ true
    go None there = absurd (differ e (ap (is_row is_ended) (none_there t.rows n there)))
    go (Some row) there =
        ap (is_row is_ended) there ∙ was_ended t row still (sym (ap (is_row is_ended) (settled_there t t.rows n row there)) ∙ e)

-- what may start after settling might have before
might_before : (t : Table) (row : Row) → t.closed ≡ false → MayStart (settled t).rows (settled_row t row) → MayStart t.rows row
might_before t row still h = record {
  idle = was_idle t row still h.idle;
  members = λ m member is same. was_idle t member still (h.members m (settled_row t member) (settled_there t t.rows m member is) same);
  parent = parent_was_ended t row.parent still h.parent;
  before = λ m other is goes.
      was_ended t other still (h.before m (settled_row t other) (settled_there t t.rows m other is)
      (goes_more t.rows (settled t).rows row other (settled_row t other) (extends_settled t t.rows) (same_spot other _) goes));
}

-- after settling none waits that may start
none_waits_settled : (t : Table) → t.closed ≡ false → (n : ℕ) (row : Row) → slice_get (settled t).rows n ≡ Some row → may_start (settled t).rows row ≡ false
none_waits_settled t still n row is = grind (arith, settled_from, may_start_facts, may_start_of, might_before)

-- in a closed table none waits at all
none_waits_closed : (t : Table) → t.closed ≡ true → (n : ℕ) (row : Row) → slice_get (settled t).rows n ≡ Some row → may_start (settled t).rows row ≡ false
none_waits_closed t done n row is = grind (arith, settled_from)

none_waits_after : (t : Table) (n : ℕ) (row : Row) → slice_get (settled t).rows n ≡ Some row → may_start (settled t).rows row ≡ false
none_waits_after t n row is = grind (arith, none_waits_closed, none_waits_settled)

-- ---- the invariant is kept

parents_moved : (rows fresh : List Row) (n : ℕ) (rn : Row) (s : State) → slice_get rows n ≡ Some rn → Extends rows (with_state rows n s ++ fresh)
    → AreBelow (Some n) s fresh → ((m : ℕ) (row : Row) → slice_get rows m ≡ Some row → parent_ended rows row.parent ≡ true)
    → (m : ℕ) (row : Row) → slice_get (with_state rows n s ++ fresh) m ≡ Some row → parent_ended (with_state rows n s ++ fresh) row.parent ≡ true
parents_moved rows fresh n rn s there ext below parents m row is = go (found rows fresh n s m row is)
  where
    later : List Row
    later = with_state rows n s ++ fresh

    changed : slice_get (with_state rows n s ++ fresh) n ≡ Some (record rn { state = s })
    changed = changed_row rows fresh n s rn there

    go : Found rows fresh n s m row → parent_ended (with_state rows n s ++ fresh) row.parent ≡ true
    go (inl h) = parent_ended_more rows (with_state rows n s ++ fresh) row.parent ext (parents m row h)
    go (inr (inl h)) =
        let at : m ≡ n = h.0 in
        let known : slice_get (with_state rows n s ++ fresh) n ≡ Some (record rn { state = s }) = changed in
        let same : row ≡ record rn { state = s } = cc in
        ap (λ (r : Row). parent_ended (with_state rows n s ++ fresh) r.parent) same
        ∙ parent_ended_more rows (with_state rows n s ++ fresh) rn.parent ext (parents n rn there)
    go (inr (inr h)) =
        let new = below h.0 row h.1 in
        ap (parent_ended (with_state rows n s ++ fresh)) new.0 ∙ ap (is_row is_ended) changed ∙ new.2

abbrev Parents : List Row → Type 0
Parents rows = (m : ℕ) (row : Row) → slice_get rows m ≡ Some row → parent_ended rows row.parent ≡ true

parents_settled : (t : Table) → Parents t.rows → Parents (settled t).rows
parents_settled t parents m row is =
    let from = settled_from t t.rows m row is in
    ap (λ (r : Row). parent_ended (settled t).rows r.parent) (sym from.2)
    ∙ parent_ended_more t.rows (settled t).rows from.0.parent (extends_settled t t.rows) (parents m from.0 from.1)

parents_changed : (t u : Table) → Onward t u → (IsMove t u) ⊎ (IsClosing t u) → Parents t.rows → Parents u.rows
parents_changed t u on change parents = grind (arith, parents_moved)

pub keeps_series : EventsKeepSeries
keeps_series t event at h = go (change t event at) refl
  where
    go : (c : Option Table) → change t event at ≡ c → IsInSeries (next t event at)
    go None is = let P : Table → Type 0 = λ u. IsInSeries u in subst P (sym (next_of_stray t event at is)) h
    go (Some u) is =
        let P : Table → Type 0 = λ v. IsInSeries v in
        let on : Onward t u = (change_advances t u event at is).onward in
        subst P (sym (next_of_change t u event at is)) (record {
          parents = parents_settled u (parents_changed t u on (change_is t u event at is) h.parents);
          none_waits = none_waits_after u;
        })

-- ---- what starts waited for the changed row, or is new below it

hangs : (rows fresh : List Row) (n : ℕ) (rn : Row) (s : State) → slice_get rows n ≡ Some rn → is_idle s ≡ false → Extends rows (with_state rows n s ++ fresh)
    → (a : Row) → parent_ended rows a.parent ≡ true → may_start rows a ≡ false → MayStart (with_state rows n s ++ fresh) a
    → Passes (line_from (length rows) (with_state rows n s ++ fresh) (Some (record rn { state = s }))) a
hangs rows fresh n rn s there busy ext a parent waits may =
    let w = waits_for rows a may.idle (λ m member is same. members m member is same (stays rows fresh n s m member is)) parent waits in
    go w.0 w.1 w.2 w.3 w.4 (stays rows fresh n s w.0 w.1 w.2)
  where
    members : (m : ℕ) (member : Row) → slice_get rows m ≡ Some member → same_group member a ≡ true
        → (slice_get (with_state rows n s ++ fresh) m ≡ Some member) ⊎ ((m ≡ n) × (slice_get (with_state rows n s ++ fresh) m ≡ Some (record member { state = s })))
        → is_idle member.state ≡ true
    members m member is same (inl h) = may.members m member h same
    members m member is same (inr h) = absurd (differ (may.members m (record member { state = s }) h.1 same) busy)

    go : (m : ℕ) (other : Row) → slice_get rows m ≡ Some other → goes_before rows other a ≡ true → is_ended other.state ≡ false
        → (slice_get (with_state rows n s ++ fresh) m ≡ Some other) ⊎ ((m ≡ n) × (slice_get (with_state rows n s ++ fresh) m ≡ Some (record other { state = s })))
        → Passes (line_from (length rows) (with_state rows n s ++ fresh) (Some (record rn { state = s }))) a
    go m other is goes open_yet (inl h) =
        absurd (differ (may.before m other h (goes_more rows (with_state rows n s ++ fresh) a other other ext (record { key = refl; q = refl; place = refl; parent = refl; group = refl }) goes)) open_yet)
    go m other is goes open_yet (inr h) =
        let at : m ≡ n = h.0 in
        let same : other ≡ rn = cc in
        let P : Row → Type 0 = λ r. Passes (line_from (length rows) rows (Some r)) a in
        line_more (length rows) (length rows) rows (with_state rows n s ++ fresh) a rn (record rn { state = s }) (omega arith) ext (same_spot rn s) (subst P same goes)

-- a row below the changed one stands below what any other waits for
new_meets : (rows fresh : List Row) (n : ℕ) (rn : Row) (s : State) → slice_get rows n ≡ Some rn
    → (i k : ℕ) (a b : Row) → slice_get fresh k ≡ Some a → a.parent ≡ Some n → slice_get (with_state rows n s ++ fresh) i ≡ Some a
    → MayStart (with_state rows n s ++ fresh) a → MayStart (with_state rows n s ++ fresh) b
    → Passes (line_from (length rows) (with_state rows n s ++ fresh) (Some (record rn { state = s }))) b → ⊥
new_meets rows fresh n rn s there i k a b new parent is f g passes =
    let len = has_rows (with_state rows n s ++ fresh) i a is in
    let some = has_rows fresh k a new in
    go len.0 len.1 some.0 some.1
  where
    go : (l : ℕ) → length (with_state rows n s ++ fresh) ≡ suc l → (more : ℕ) → length fresh ≡ suc more → ⊥
    go l len more some =
        let sum : length (with_state rows n s ++ fresh) ≡ length (with_state rows n s) + length fresh = length-append _ _ in
        let same : length (with_state rows n s) ≡ length rows = length-state rows n s in
        let longer : Passes (line_from l (with_state rows n s ++ fresh) (Some (record rn { state = s }))) b =
        line_fuel (length rows) l (with_state rows n s ++ fresh) b (Some (record rn { state = s })) (omega arith) passes in
        let above : parent_row (with_state rows n s ++ fresh) a.parent ≡ Some (record rn { state = s }) =
        ap (parent_row (with_state rows n s ++ fresh)) parent ∙ changed_row rows fresh n s rn there in
        let P : Option Row → Type 0 = λ o. Passes (line_from l (with_state rows n s ++ fresh) o) b in
        not_above (with_state rows n s ++ fresh) l i a b len is f g (subst P (sym above) longer)

-- rows that may start after a move stand in one group
abbrev pub OneGroup : List Row → Type 0
OneGroup rows =
    (i j : ℕ) (a b : Row) → slice_get rows i ≡ Some a → slice_get rows j ≡ Some b → MayStart rows a → MayStart rows b
    → (a.parent ≡ b.parent) × (a.group ≡ b.group)

one_group_moved : (rows fresh : List Row) (n : ℕ) (rn : Row) (s : State) → slice_get rows n ≡ Some rn → is_idle s ≡ false → Extends rows (with_state rows n s ++ fresh)
    → AreBelow (Some n) s fresh → Parents rows → ((m : ℕ) (row : Row) → slice_get rows m ≡ Some row → may_start rows row ≡ false)
    → OneGroup (with_state rows n s ++ fresh)
one_group_moved rows fresh n rn s there busy ext below parents waits i j a b is also f g =
    let same : a.parent ≡ b.parent = go (found rows fresh n s i a is) (found rows fresh n s j b also) in
    (same, one_group (with_state rows n s ++ fresh) i j a b is also f g same)
  where
    hung : (m : ℕ) (row : Row) → slice_get rows m ≡ Some row → MayStart (with_state rows n s ++ fresh) row
        → Passes (line_from (length rows) (with_state rows n s ++ fresh) (Some (record rn { state = s }))) row
    hung m row at may = hangs rows fresh n rn s there busy ext row (parents m row at) (waits m row at) may

    go : Found rows fresh n s i a → Found rows fresh n s j b → a.parent ≡ b.parent
    go (inr (inl h)) y = absurd (differ f.idle (ap is_idle h.1 ∙ busy))
    go (inl h) (inr (inl k)) = absurd (differ g.idle (ap is_idle k.1 ∙ busy))
    go (inr (inr h)) (inr (inl k)) = absurd (differ g.idle (ap is_idle k.1 ∙ busy))
    go (inl h) (inl k) =
        one_parent (with_state rows n s ++ fresh) (length rows) i j a b (Some (record rn { state = s }))
        (extends_length rows (with_state rows n s ++ fresh) ext) is also f g (hung i a h f) (hung j b k g)
    go (inr (inr h)) (inl k) =
        absurd (new_meets rows fresh n rn s there i h.0 a b h.1 (below h.0 a h.1).0 is f g (hung j b k g))
    go (inl h) (inr (inr k)) =
        absurd (new_meets rows fresh n rn s there j k.0 b a k.1 (below k.0 b k.1).0 also g f (hung i a h f))
    go (inr (inr h)) (inr (inr k)) = (below h.0 a h.1).0 ∙ sym (below k.0 b k.1).0

-- ---- what is started

idle_not_trying : (state : State) → is_idle state ≡ true → is_trying state ≡ false
idle_not_trying state e = grind arith

-- a row that settling starts was open to start, in an open table
started_by_settling : (state : State) (kind : Kind) (closed start : Bool) → is_trying state ≡ false
    → is_trying (cond closed (closed_state kind state) (cond start Trying state)) ≡ true → (closed ≡ false) × (start ≡ true)
started_by_settling state kind closed start not_yet now = grind arith

-- a row that is tried after the change was tried before it
pub tried_before : (t u : Table) → (IsMove t u) ⊎ (IsClosing t u) → (n : ℕ) (row : Row) → slice_get u.rows n ≡ Some row
    → is_row is_trying (slice_get t.rows n) ≡ false → is_trying row.state ≡ false
tried_before t u change n row is not_yet = grind (arith, found, idle_not_trying)

not_true : (b : Bool) → not b ≡ true → b ≡ false
not_true b e = grind arith

-- the row that settling started, as the change left it
record Begun (t u : Table) (n : ℕ) (row : Row) : Type 0 where
  was : Row
  there : slice_get u.rows n ≡ Some was
  same : settled_row u was ≡ row
  still : u.closed ≡ false
  may : MayStart u.rows was

begun : (t u : Table) → (IsMove t u) ⊎ (IsClosing t u) → (n : ℕ) (row : Row) → IsStarted t (settled u) n row → Begun t u n row
begun t u change n row started =
    let from = settled_from u u.rows n row started.0 in
    let not_yet : is_row is_trying (slice_get t.rows n) ≡ false = not_true _ (and_right _ _ started.1) in
    grind (arith, common_steps, tried_before t u change n from.0 from.1 not_yet, and_left, started_by_settling, may_start_facts)

pub one_group_changed : (t u : Table) → Onward t u → (IsMove t u) ⊎ (IsClosing t u) → IsInSeries t → u.closed ≡ false → OneGroup u.rows
one_group_changed t u on change h still = grind (arith, one_group_moved)

one_group_settled : (t u : Table) → Onward t u → (IsMove t u) ⊎ (IsClosing t u) → IsInSeries t → OneGroupStarts t (settled u)
one_group_settled t u on change h n m row other one two = grind (arith, common_steps, begun t u change n row one, begun t u change m other two, one_group_changed)

none_become : (t : Table) (n : ℕ) (row : Row) → IsStarted t t n row → ⊥
none_become t n row is = differ (and_left _ _ is.1) (not_true _ (and_right _ _ is.1))

pub one_group_starts : AnEventStartsOneGroup
one_group_starts t event at h = go (change t event at) refl
  where
    go : (c : Option Table) → change t event at ≡ c → OneGroupStarts t (next t event at)
    go None is =
        let P : Table → Type 0 = λ u. OneGroupStarts t u in
        subst P (sym (next_of_stray t event at is)) (λ n m row other one two. absurd (none_become t n row one))
    go (Some u) is =
        let P : Table → Type 0 = λ v. OneGroupStarts t v in
        subst P (sym (next_of_change t u event at is))
        (one_group_settled t u (change_advances t u event at is).onward (change_is t u event at is) h)

-- ---- groups start whole

same_group_of : (a b c : Row) → b.parent ≡ c.parent → b.group ≡ c.group → same_group a b ≡ same_group a c
same_group_of a b c p g = (λ i. option_eq nat_eq a.parent (p i) && a.group == g i)

goes_before_of : (rows : List Row) (a b c : Row) → b.parent ≡ c.parent → b.group ≡ c.group → goes_before rows a b ≡ goes_before rows a c
goes_before_of rows a b c p g = grind arith

-- a row of the same group may start too
member_may : (rows : List Row) (m : ℕ) (a b : Row) → slice_get rows m ≡ Some b → MayStart rows a → b.parent ≡ a.parent → b.group ≡ a.group → MayStart rows b
member_may rows m a b is may p g = grind (arith, common_steps, same_group_of b a b (sym p) (sym g), same_group_refl b, goes_before_of)

true_not : (b : Bool) → b ≡ false → not b ≡ true
true_not b e = grind arith

trying_not_idle : (state : State) → is_trying state ≡ true → is_idle state ≡ false
trying_not_idle state e = grind arith

-- a row that waits was not tried before
pub idle_before : (rows later : List Row) (m : ℕ) (b : Row) → Extends rows later → slice_get later m ≡ Some b → is_idle b.state ≡ true
    → is_row is_trying (slice_get rows m) ≡ false
idle_before rows later m b ext is idle = grind (arith, common_steps, differ, trying_not_idle, extends_row)

whole_settled : (t u : Table) → Onward t u → (IsMove t u) ⊎ (IsClosing t u) → (n m : ℕ) (row other : Row) → IsStarted t (settled u) n row
    → slice_get (settled u).rows m ≡ Some other → other.parent ≡ row.parent → other.group ≡ row.group → IsStarted t (settled u) m other
whole_settled t u on change n m row other started is p g = grind (arith, common_steps, begun t u change n row started, settled_from, member_may, settled_open, may_start_of, and_both, true_not, idle_before)

pub groups_whole : GroupsStartWhole
groups_whole t event at n m row other = go (change t event at) refl
  where
    go : (c : Option Table) → change t event at ≡ c → IsStarted t (next t event at) n row → slice_get (next t event at).rows m ≡ Some other
        → other.parent ≡ row.parent → other.group ≡ row.group → IsStarted t (next t event at) m other
    go None is =
        let P : Table → Type 0 = λ u. IsStarted t u n row → slice_get u.rows m ≡ Some other → other.parent ≡ row.parent → other.group ≡ row.group → IsStarted t u m other in
        subst P (sym (next_of_stray t event at is)) (λ started there p g. absurd (none_become t n row started))
    go (Some u) is =
        let P : Table → Type 0 = λ u. IsStarted t u n row → slice_get u.rows m ≡ Some other → other.parent ≡ row.parent → other.group ≡ row.group → IsStarted t u m other in
        subst P (sym (next_of_change t u event at is))
        (whole_settled t u (change_advances t u event at is).onward (change_is t u event at is) n m row other)
