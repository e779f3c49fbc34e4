-- What the search finds under a row, or at the top, says which of the rows there may start.
use Rattle.fork_tree.proofs.Common.{◌≡◌, ℕ, zero, suc, ◌+◌, ◌-◌, ◌<◌, ◌≤◌, inl, inr, Bool, true, false, List, [], ◌∷◌, length, Option, Some, None, slice_get, refl, ap, sym, subst, ◌∙◌, arith, ltb, ltb-true, ltb-false, nat_eq, nat_lt, option_eq}
use Rattle.fork_tree.proofs.Common.{append-nil, Row, is_idle, is_ended, is_row, parent_ended, and_left, and_right, MayStart, may_start_facts, may_start_of, option_same, NodePlace, has_ended, Cell, Entry, find, state_in, path_of, row_at, rows_of}
use Rattle.fork_tree.proofs.Common.{number_of, under, open_of, IsReady, IsOnWay, IsKnown, IsShape, IsStarted, waits_in, FindsFirst, FindsHere, NoneUnder, FindsOnWay, slice_get_within, one_there, common_steps}
use Rattle.std.specs.Prelude.{IfSome}
use Rattle.fork_model.proofs.laws.WaitingLemmas.{is_earlier}
use Rattle.fork_tree.specs.inner.Search.{AllWait, OrBelow, FindsUnder}
use Rattle.fork_tree.proofs.Placed.{get_row, row_got, IsRowAt, ended_plain}
use Rattle.fork_tree.proofs.Unders.{find_under, under_none}
use Rattle.fork_tree.proofs.Counts.{rows_length}
use Rattle.fork_tree.proofs.Lines.{AreOlderRows, IsBefore, before_found, before_goes, none_below}
use Rattle.fork_tree.proofs.GroupNumbers.{IsPlaceOf, place_got, IsRowOf, row_of, older_rows, behind}
use Rattle.fork_tree.proofs.Known.{differ, members_of, is_member}
use Rattle.fork_tree.proofs.Ways.{idle_open, way_up}
use Rattle.fork_tree.proofs.Grouped.{level_of, found_at, numbered, StandsAt, stands_at, none_in_group, IsOpenGroup, some_in_group}

-- ---- where none may start

-- a row of a group in which nothing is open
over_waits : (all : List NodePlace) (root : List Entry) (p : Option ℕ) (k : ℕ) (row : Row) → IsShape all root → slice_get (rows_of all root) k ≡ Some row → row.parent ≡ p
    → open_of (under (row.group ∷ []) (level_of all root p)) ≡ 0 → is_idle row.state ≡ true → ⊥
over_waits all root p k row shape is up none waits = grind (arith, common_steps, place_got all root (rows_of all root) k row refl is, level_of, idle_open, older_rows, none_in_group)

none_over : (all : List NodePlace) (root : List Entry) (p : Option ℕ) → IsShape all root → ((j : ℕ) → open_of (under (j ∷ []) (level_of all root p)) ≡ 0)
    → NoneUnder (rows_of all root) p
none_over all root p shape over k row is up may =
    over_waits all root p k row shape is up (over row.group) (may_start_facts (rows_of all root) row may).idle

record IsBusy (all : List NodePlace) (root : List Entry) (p : Option ℕ) (group place : ℕ) : Type 0 where
  pub number : ℕ
  pub row : Row
  pub there : slice_get (rows_of all root) number ≡ Some row
  pub parent : row.parent ≡ p
  pub group_is : row.group ≡ group
  pub started : is_idle row.state ≡ false

busy_at : (all : List NodePlace) (root : List Entry) (p : Option ℕ) (group place : ℕ) → IsShape all root → IsKnown (length all) p
    → IsStarted (find (under (group ∷ []) (level_of all root p)) (place ∷ [])) → IsBusy all root p group place
busy_at all root p group place shape known started = go (find (under (group ∷ []) (level_of all root p)) (place ∷ [])) refl started
  where
    go : (o : Option Cell) → find (under (group ∷ []) (level_of all root p)) (place ∷ []) ≡ o → IsStarted o → IsBusy all root p group place
    go None e h = absurd h
    go (Some c) e h =
        let s : StandsAt all root p group place c = stands_at all root p group place c shape known (sym (find_under (group ∷ []) (level_of all root p) (place ∷ [])) ∙ e) in
        let spot : NodePlace = record { parent = p; group = group; place = place } in
        let at : 0 + c.number ≡ c.number = omega arith in
        let cell : find root (path_of all (0 + c.number)) ≡ Some c = ap (λ k. find root (path_of all k)) at ∙ s.found in
        record {
          number = c.number;
          row = row_at spot (Some c);
          there = get_row all root 0 c.number all spot s.there ∙ ap (λ o. Some (row_at spot o)) cell;
          parent = refl;
          group_is = refl;
          started = h;
        }

none_busy : (all : List NodePlace) (root : List Entry) (p : Option ℕ) → IsShape all root → IsKnown (length all) p → FindsFirst (level_of all root p) None → NoneUnder (rows_of all root) p
none_busy all root p shape known f k row is up e = go (may_start_facts rows row e) (ltb row.group f.group) (ltb f.group row.group) refl refl
  where
    rows : List Row
    rows = rows_of all root

    older : AreOlderRows (rows_of all root)
    older = older_rows all root (rows_of all root) shape.older refl

    busy : IsBusy all root p f.group f.found.0
    busy = busy_at all root p f.group f.found.0 shape known f.found.1

    on : IsOpenGroup all root p f.group
    on = some_in_group all root p f.group shape known f.goes_on

    go : MayStart (rows_of all root) row → (a b : Bool) → ltb row.group f.group ≡ a → ltb f.group row.group ≡ b → ⊥
    go may true b l g = over_waits all root p k row shape is up (f.earlier row.group (ltb-true row.group f.group l)) may.idle
    go may false true l g =
        let first : IsRowOf (rows_of all root) on.number on.spot = row_of all root (rows_of all root) on.number on.spot refl on.there in
        let less : first.row.group < row.group = omega (arith, first.group, on.group_is, ltb-true f.group row.group g) in
        differ (is_ended on.row.state)
        (may.before on.open_row on.row on.open_row_there
        (before_goes (rows_of all root) row first.row on.row on.number on.open_row older first.there (is_earlier first.row row (first.parent ∙ on.parent ∙ sym up) less) on.open_row_there on.below))
        on.unended
    go may false false l g =
        let same : busy.row.group ≡ row.group = omega (arith, busy.group_is, ltb-false row.group f.group l, ltb-false f.group row.group g) in
        differ (is_idle busy.row.state) (may.members busy.number busy.row busy.there (is_member busy.row row (busy.parent ∙ sym up, same))) busy.started

-- ---- where a group waits

idle_at : (s : NodePlace) (o : Option Cell) → waits_in o ≡ true → is_idle (row_at s o).state ≡ true
idle_at s o e = grind arith

-- the branch at each place is that of its number
new_row_at : (all : List NodePlace) (root : List Entry) (p : Option ℕ) (first count group i : ℕ) → IsShape all root → IsKnown (length all) p
    → AllWait (under (group ∷ []) (level_of all root p)) first count → i < count → slice_get all (first + i) ≡ Some (record { parent = p; group = group; place = i })
new_row_at all root p first count group zero shape known f lt = go (find (under (group ∷ []) (level_of all root p)) (0 ∷ [])) refl f.first_there
  where
    go : (o : Option Cell) → find (under (group ∷ []) (level_of all root p)) (0 ∷ []) ≡ o → number_of o ≡ Some first
        → slice_get all (first + 0) ≡ Some (record { parent = p; group = group; place = 0 })
    go None e h = absurd cc
    go (Some c) e h =
        let s : StandsAt all root p group 0 c = stands_at all root p group 0 c shape known (sym (find_under (group ∷ []) (level_of all root p) (0 ∷ [])) ∙ e) in
        let number : c.number ≡ first = cc in
        ap (slice_get all) (omega (arith, number)) ∙ s.there
new_row_at all root p first count group (suc i) shape known f lt =
    go (find (under (group ∷ []) (level_of all root p)) (suc i ∷ [])) refl (f.wait (suc i) lt) (new_row_at all root p first count group i shape known f (omega (arith, lt)))
  where
    go : (o : Option Cell) → find (under (group ∷ []) (level_of all root p)) (suc i ∷ []) ≡ o → waits_in o ≡ true
        → slice_get all (first + i) ≡ Some (record { parent = p; group = group; place = i })
        → slice_get all (first + suc i) ≡ Some (record { parent = p; group = group; place = suc i })
    go None e h before = absurd cc
    go (Some c) e h before =
        let s : StandsAt all root p group (suc i) c = stands_at all root p group (suc i) c shape known (sym (find_under (group ∷ []) (level_of all root p) (suc i ∷ [])) ∙ e) in
        let last = behind all c.number (record { parent = p; group = group; place = suc i }) i shape.together s.there refl in
        let one : Some last.0 ≡ Some (first + i) =
        sym (numbered all root last.0 (record { parent = p; group = group; place = i }) shape.older shape.placed last.2)
        ∙ numbered all root (first + i) (record { parent = p; group = group; place = i }) shape.older shape.placed before in
        let number : last.0 ≡ first + i = cc in
        ap (slice_get all) (omega (arith, number, last.1)) ∙ s.there

group_ready : (all : List NodePlace) (root : List Entry) (p : Option ℕ) (first count : ℕ) → IsShape all root → IsKnown (length all) p → parent_ended (rows_of all root) p ≡ true
    → FindsFirst (level_of all root p) (Some (first, count)) → IsReady (rows_of all root) first count
group_ready all root p first count shape known ended f = record {
  some = f.found.some;
  within = omega (
    arith,
    slice_get_within all (first + (count - 1)) (spot (count - 1)) (at (count - 1) (omega (arith, f.found.some))),
    rows_length all root 0 all,
    f.found.some,
  );
  ready = λ k row low high is. may_start_of (rows_of all root) row (starts k row low high is);
  whole = λ j k row other low high is there up same. (let s = stands j row low high is in within k other there (up ∙ s.0) (same ∙ s.1));
}
  where
    spot : ℕ → NodePlace
    spot i = record { parent = p; group = f.group; place = i }

    older : AreOlderRows (rows_of all root)
    older = older_rows all root (rows_of all root) shape.older refl

    cell_at : (i : ℕ) → find (under (f.group ∷ []) (level_of all root p)) (i ∷ []) ≡ find (level_of all root p) (f.group ∷ i ∷ [])
    cell_at i = find_under (f.group ∷ []) (level_of all root p) (i ∷ [])

    at : (i : ℕ) → i < count → slice_get all (first + i) ≡ Some (record { parent = p; group = f.group; place = i })
    at i lt = new_row_at all root p first count f.group i shape known f.found lt

    stands : (k : ℕ) (row : Row) → first ≤ k → k < first + count → slice_get (rows_of all root) k ≡ Some row → (row.parent ≡ p) × (row.group ≡ f.group)
    stands k row low high is =
        let a : IsPlaceOf all k row = place_got all root (rows_of all root) k row refl is in
        let there : slice_get all k ≡ Some (spot (k - first)) = ap (slice_get all) (omega (arith, low)) ∙ at (k - first) (omega (arith, low, high)) in
        let one : a.spot ≡ spot (k - first) = one_there all k a.spot (spot (k - first)) a.there there in
        (a.parent ∙ ap (λ (s : NodePlace). s.parent) one, a.group ∙ ap (λ (s : NodePlace). s.group) one)

    within : (m : ℕ) (member : Row) → slice_get (rows_of all root) m ≡ Some member → member.parent ≡ p → member.group ≡ f.group → (first ≤ m) × (m < first + count)
    within m member is up same =
        let a : IsPlaceOf all m member = place_got all root (rows_of all root) m member refl is in
        let there : slice_get all m ≡ Some (spot a.spot.place) =
        a.there ∙ ap (λ (x : Option ℕ). Some (record { parent = x; group = a.spot.group; place = a.spot.place })) (sym a.parent ∙ up)
        ∙ ap (λ (x : ℕ). Some (record { parent = p; group = x; place = a.spot.place })) (sym a.group ∙ same) in
        go a.spot.place there (find (level_of all root p) (f.group ∷ a.spot.place ∷ [])) refl (numbered all root m (spot a.spot.place) shape.older shape.placed there)
      where
        go : (i : ℕ) → slice_get all m ≡ Some (record { parent = p; group = f.group; place = i }) → (o : Option Cell) → find (level_of all root p) (f.group ∷ i ∷ []) ≡ o
            → number_of (find (level_of all root p) (f.group ∷ i ∷ [])) ≡ Some m → (first ≤ m) × (m < first + count)
        go i there None e h = (let bad : None ≡ Some m = sym (ap number_of e) ∙ h in absurd cc)
        go i there (Some c) e h =
            let lt : i < count = f.found.whole i c (cell_at i ∙ e) in
            let one : Some m ≡ Some (first + i) = sym h ∙ numbered all root (first + i) (record { parent = p; group = f.group; place = i }) shape.older shape.placed (at i lt) in
            let number : m ≡ first + i = cc in
            (omega (arith, number), omega (arith, number, lt))

    waits : (k : ℕ) (row : Row) → first ≤ k → k < first + count → slice_get (rows_of all root) k ≡ Some row → is_idle row.state ≡ true
    waits k row low high is =
        let got : IsRowAt all root 0 k all row = row_got all root 0 k all row is in
        let place : slice_get all k ≡ Some (spot (k - first)) = ap (slice_get all) (omega (arith, low)) ∙ at (k - first) (omega (arith, low, high)) in
        let known_cell : waits_in (find (under (f.group ∷ []) (level_of all root p)) ((k - first) ∷ [])) ≡ true = f.found.wait (k - first) (omega (arith, low, high)) in
        ap (λ (r : Row). is_idle r.state) got.2 ∙ idle_at got.0 (find root (path_of all (0 + k))) (cell k place known_cell)
      where
        cell : (k : ℕ) → slice_get all k ≡ Some (spot (k - first)) → waits_in (find (under (f.group ∷ []) (level_of all root p)) ((k - first) ∷ [])) ≡ true
            → waits_in (find root (path_of all (0 + k))) ≡ true
        cell k place h =
            let at_zero : 0 + k ≡ k = omega arith in
            ap (λ x. waits_in (find root (path_of all x))) at_zero ∙ sym (ap waits_in (cell_at (k - first) ∙ found_at all root k (spot (k - first)) shape.older place)) ∙ h

    starts : (k : ℕ) (row : Row) → first ≤ k → k < first + count → slice_get (rows_of all root) k ≡ Some row → MayStart (rows_of all root) row
    starts k row low high is =
        let s = stands k row low high is in
        record {
          idle = waits k row low high is;
          members = λ m member there same.
              (let both = members_of member row same in
              let range = within m member there (both.0 ∙ s.0) (both.1 ∙ s.1) in
              waits m member range.0 range.1 there);
          parent = ap (parent_ended (rows_of all root)) s.0 ∙ ended;
          before = λ m other there goes. over s.0 s.1 m other there (before_found (rows_of all root) row other m older there goes);
        }
      where
        over : row.parent ≡ p → row.group ≡ f.group → (m : ℕ) (other : Row) → slice_get (rows_of all root) m ≡ Some other → IsBefore (rows_of all root) row m → is_ended other.state ≡ true
        over up same m other there b =
            let a : IsPlaceOf all b.number b.first = place_got all root (rows_of all root) b.number b.first refl b.there in
            let beside : a.spot.parent ≡ p = sym a.parent ∙ option_same b.first.parent row.parent (and_left (option_eq nat_eq b.first.parent row.parent) (nat_lt b.first.group row.group) b.earlier) ∙ up in
            let less : b.first.group < row.group = ltb-true b.first.group row.group (and_right (option_eq nat_eq b.first.parent row.parent) (nat_lt b.first.group row.group) b.earlier) in
            let none : open_of (under (a.spot.group ∷ []) (level_of all root p)) ≡ 0 = f.earlier a.spot.group (omega (arith, less, a.group, same)) in
            none_below (rows_of all root) b.number m other
            (none_in_group all root b.number a.spot shape a.there (ap (λ x. open_of (under (a.spot.group ∷ []) (level_of all root x))) beside ∙ none)) there b.below

-- ---- what is found in one level

pub level_finds : (all : List NodePlace) (root level : List Entry) (p : Option ℕ) (r : Option (ℕ × ℕ)) → IsShape all root → IsKnown (length all) p → level ≡ level_of all root p
    → (IfSome r (λ g. parent_ended (rows_of all root) p ≡ true)) → FindsHere level r → FindsUnder (rows_of all root) p r
level_finds all root level p (Some g) shape known is ended found =
    group_ready all root p g.0 g.1 shape known ended (subst (λ x. FindsFirst x (Some g)) is found)
level_finds all root level p None shape known is ended found =
    elim (subst (λ x. FindsHere x None) is found) [ inl f ↦ none_busy all root p shape known f | inr over ↦ none_over all root p shape over ]

-- at the top
pub top_finds : (all : List NodePlace) (root : List Entry) (r : Option (ℕ × ℕ)) → IsShape all root → FindsHere root r → FindsOnWay (rows_of all root) None r
top_finds all root (Some g) shape found = level_finds all root root None (Some g) shape tt (sym (under_none root)) refl found
top_finds all root None shape found = λ parent way.
    subst (NoneUnder (rows_of all root)) (sym way) (level_finds all root root None None shape tt (sym (under_none root)) tt found)

row_over : (all : List NodePlace) (root node : List Entry) (n : ℕ) (s : NodePlace) → slice_get all n ≡ Some s → node ≡ under (path_of all n) root → has_ended (state_in (find node [])) ≡ true
    → is_row is_ended (slice_get (rows_of all root) n) ≡ true
row_over all root node n s is same ended = grind (arith, common_steps, find_under (path_of all n) root [], append-nil (path_of all n), get_row all root 0 n all s is, ended_plain)

-- on the way down to a row, where on that to the row above it this was found
pub way_finds : (all : List NodePlace) (root node : List Entry) (n : ℕ) (s : NodePlace) (found r : Option (ℕ × ℕ)) → IsShape all root → slice_get all n ≡ Some s → node ≡ under (path_of all n) root
    → FindsOnWay (rows_of all root) s.parent found → OrBelow found node r → FindsOnWay (rows_of all root) (Some n) r
way_finds all root node n s (Some g) r shape is same up or = subst (FindsOnWay (rows_of all root) (Some n)) (sym or) up
way_finds all root node n s None (Some g) shape is same up or = grind (arith, common_steps, level_finds all root node (Some n) (Some g) shape (slice_get_within all n s is) same (row_over all root node n s is same or.1) or.0, slice_get_within, row_over)
way_finds all root node n s None None shape is same up or = λ parent way.
    elim (way_up (rows_of all root) n here.row parent (older_rows all root (rows_of all root) shape.older refl) here.there way) [
      | inl e ↦ subst (NoneUnder (rows_of all root)) (sym e) (level_finds all root node (Some n) None shape (slice_get_within all n s is) same tt or)
      | inr h ↦ up parent (subst (λ o. IsOnWay (rows_of all root) o parent) here.parent h)
    ]
  where
    here : IsRowOf (rows_of all root) n s
    here = row_of all root (rows_of all root) n s refl is
