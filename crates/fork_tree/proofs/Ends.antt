-- A row ends, and new rows come below it.
use Rattle.fork_tree.proofs.Common.{◌-◌, ltb-true, ltb-false, ◌≡◌, ℕ, zero, suc, ◌+◌, ◌<◌, ◌≤◌, Bool, true, false, IsTrue, List, [], ◌∷◌, ◌++◌, length, map, Option, Some, None, slice_get, refl, ap, sym, subst, ◌∙◌, arith, length-append}
use Rattle.fork_tree.proofs.Common.{if◌then◌else◌, nat_lt, eq-eqb, Row, Rules, is_row, is_open, most_targets, with_state, BranchState, Summary, NewRow, NodePlace, plain_state, Cell, Entry, same, find, led, in_standing, changed, with_branch, Better, above}
use Rattle.fork_tree.proofs.Common.{path_at, path_to, path_of, row_at, rows_from, rows_of, number_of, IsPlaced, AreOlder, waiting_row, new_entries, place_in, AreListed, AreRanked, IsTree, kept_of, is_unended, there_at, get_map, get_left, get_right}
use Rattle.fork_tree.proofs.Common.{length-map, Changes, slice_get_within, common_steps, rules}
use Rattle.fork_tree.specs.Listed.{IsAt}
use Rattle.fork_tree.proofs.Traces.{path_below}
use Rattle.fork_tree.proofs.Summaries.{summary_gained}
use Rattle.fork_tree.proofs.Placed.{same_true, same_refl, find_at, find_else, entered, still_placed, one_row_changes, IsElse}
use Rattle.fork_tree.proofs.Opening.{AreRising, new_row_path, new_row_cell, find_new_row, length_new_entries, new_rows_ranked, AreFound, rows_found, listed_found}

-- ---- paths when rows are added

abbrev pub grown : List NodePlace → ℕ → List NewRow → List NodePlace
grown all n new_rows = all ++ map (place_in (Some n)) new_rows

pub path_kept : (all more : List NodePlace) (steps n : ℕ) → AreOlder all → n < length all → path_to (all ++ more) steps n ≡ path_to all steps n
path_kept all more zero n old h = refl
path_kept all more (suc steps) n old h =
    ap (λ o. path_at o (path_to (all ++ more) steps)) (get_left all more n h)
    ∙ at (λ (m : ℕ) (k : m < n). path_kept all more steps m old (omega (arith, k, h))) (slice_get all n) refl
  where
    up : ((m : ℕ) → m < n → path_to (all ++ more) steps m ≡ path_to all steps m) → (p : NodePlace) → slice_get all n ≡ Some p → (o : Option ℕ) → p.parent ≡ o
        → above o (path_to (all ++ more) steps) ≡ above o (path_to all steps)
    up again p is None e = refl
    up again p is (Some m) e = again m (old n p m is e)

    at : ((m : ℕ) → m < n → path_to (all ++ more) steps m ≡ path_to all steps m) → (o : Option NodePlace) → slice_get all n ≡ o
        → path_at o (path_to (all ++ more) steps) ≡ path_at o (path_to all steps)
    at again None e = refl
    at again (Some p) e = ap (λ x. x ++ p.group ∷ p.place ∷ []) (up again p e p.parent refl)

new_parent : (n : ℕ) (new_rows : List NewRow) (i : ℕ) (p : NodePlace) (up : ℕ) → slice_get (map (place_in (Some n)) new_rows) i ≡ Some p → p.parent ≡ Some up → up ≡ n
new_parent n [] i p up h e = absurd cc
new_parent n (s ∷ new_rows) zero p up h e = grind arith
new_parent n (s ∷ new_rows) (suc i) p up h e = new_parent n new_rows i p up h e

pub older_grown : (all : List NodePlace) (n : ℕ) (new_rows : List NewRow) → AreOlder all → n < length all → AreOlder (grown all n new_rows)
older_grown all n new_rows old lt m p up is e = go (nat_lt m (length all)) refl
  where
    go : (b : Bool) → nat_lt m (length all) ≡ b → up < m
    go true f = old m p up (sym (get_left all (map (place_in (Some n)) new_rows) m (ltb-true m (length all) f)) ∙ is) e
    go false f =
        let far : length all ≤ m = ltb-false m (length all) f in
        let there : slice_get (map (place_in (Some n)) new_rows) (m - length all) ≡ Some p =
        sym (get_right all (map (place_in (Some n)) new_rows) m (m - length all) (omega (arith, far))) ∙ is in
        omega (arith, far, lt, new_parent n new_rows (m - length all) p up there e)

-- the places with those of the new rows
pub added : (parent : Option ℕ) (items old all : List NodePlace) (given new_rows : List NewRow) → items ≡ old ++ map (place_in parent) given → old ≡ all
    → given ≡ new_rows
    → items ≡ all ++ map (place_in parent) new_rows
added parent items old all given new_rows e f g = e ∙ ap (λ x. x ++ map (place_in parent) given) f ∙ ap (λ x. all ++ map (place_in parent) x) g

-- ---- what is found

pub same_led : (p a b : List ℕ) → same (p ++ a) (p ++ b) ≡ same a b
same_led [] a b = refl
same_led (x ∷ xs) a b = rw (eq-eqb x x refl) (same_led xs a b)

pub find_led : (p : List ℕ) (rows : List Entry) (q : List ℕ) → find (map (led p) rows) (p ++ q) ≡ find rows q
find_led p [] q = refl
find_led p (e ∷ es) q = grind (arith, same_led, find_led p es q)

find_first : (xs ys : List Entry) (q : List ℕ) (c : Cell) → find xs q ≡ Some c → find (xs ++ ys) q ≡ Some c
find_first [] ys q c h = absurd cc
find_first (x ∷ xs) ys q c h = grind (arith, find_first xs ys q c)

longer : (p : List ℕ) (k : ℕ) (q : List ℕ) → same p (p ++ k ∷ q) ≡ false
longer [] k q = refl
longer (x ∷ xs) k q = rw (eq-eqb x x refl) (longer xs k q)

-- below the changed branch stands what was put there
pub find_below : (root : List Entry) (p : List ℕ) (k : ℕ) (q : List ℕ) (s : BranchState) (b : List Entry) (c d : Cell) → find root p ≡ Some c → find root (p ++ k ∷ q) ≡ None
    → find b (k ∷ q) ≡ Some d → find (with_branch root p s b) (p ++ k ∷ q) ≡ Some d
find_below [] p k q s b c d there none is = absurd cc
find_below (e ∷ es) p k q s b c d there none is =
    elim (same e.path p) as (λ t. same e.path p ≡ t → (if t then Some e.cell else find es p) ≡ Some c
    → find ((if t then changed e s b else e ∷ []) ++ with_branch es p s b) (p ++ k ∷ q) ≡ Some d) [
      | true ↦ (λ f g. (let at : e.path ≡ p = same_true e.path p f in
          let below : find (map (led e.path) b ++ with_branch es p s b) (p ++ k ∷ q) ≡ Some d =
          find_first (map (led e.path) b) (with_branch es p s b) (p ++ k ∷ q) d (ap (λ x. find (map (led x) b) (p ++ k ∷ q)) at ∙ find_led p b (k ∷ q) ∙ is) in
          rw (ap (λ x. same x (p ++ k ∷ q)) at ∙ longer p k q) below))
      | false ↦ (λ f g. other (same e.path (p ++ k ∷ q)) refl none (λ h. find_below es p k q s b c d g h is))
    ] refl there
  where
    other : (t : Bool) → same e.path (p ++ k ∷ q) ≡ t → (if t then Some e.cell else find es (p ++ k ∷ q)) ≡ None
        → (find es (p ++ k ∷ q) ≡ None → find (with_branch es p s b) (p ++ k ∷ q) ≡ Some d)
        → (if same e.path (p ++ k ∷ q) then Some e.cell else find (with_branch es p s b) (p ++ k ∷ q)) ≡ Some d
    other true f g h = absurd cc
    other false f g h = rw f (h g)

-- ---- the situation

-- row n of this tree has not ended, so nothing stands below it
pub record IsEnding (all : List NodePlace) (root : List Entry) (n : ℕ) (new_rows : List NewRow) : Type 0 where
  pub older : AreOlder all
  pub placed : IsPlaced all root
  pub known : n < length all
  pub alone : (k : ℕ) (rest : List ℕ) → find root (path_of all n ++ k ∷ rest) ≡ None
  pub rise : AreRising new_rows

abbrev pub ended_root : List NodePlace → List Entry → ℕ → BranchState → List NewRow → List Entry
ended_root all root n s new_rows = with_branch root (path_of all n) s (new_entries (length all) new_rows)

-- the paths of other rows lead to none of the new ones
pub others : (all : List NodePlace) (root : List Entry) (n : ℕ) (new_rows : List NewRow) → IsEnding all root n new_rows → IsElse all n (new_entries (length all) new_rows)
others all root n new_rows is m lm differ = go (length all) new_rows
  where
    apart : (k : ℕ) (rest : List ℕ) → path_of all m ≡ path_of all n ++ k ∷ rest → ⊥
    apart k rest e =
        let found : number_of (find root (path_of all m)) ≡ None = ap (λ x. number_of (find root x)) e ∙ ap number_of (is.alone k rest) in
        let bad : None ≡ Some m = sym found ∙ is.placed m lm in cc

    go : (k : ℕ) (new_rows : List NewRow) → find (map (led (path_of all n)) (new_entries k new_rows)) (path_of all m) ≡ None
    go k [] = refl
    go k (s ∷ new_rows) =
        elim (same (path_of all n ++ new_row_path s) (path_of all m)) as (λ t. same (path_of all n ++ new_row_path s) (path_of all m) ≡ t
        → (if t then Some (new_row_cell k s) else find (map (led (path_of all n)) (new_entries (suc k) new_rows)) (path_of all m)) ≡ None) [
          | true ↦ (λ f. absurd (apart s.group (s.place ∷ []) (sym (same_true (path_of all n ++ new_row_path s) (path_of all m) f))))
          | false ↦ (λ f. go (suc k) new_rows)
        ] refl

abbrev pub Found : List Entry → List ℕ → Type 0
Found root path = (c : Cell) × (find root path ≡ Some c)

pub there : (all : List NodePlace) (root : List Entry) (n : ℕ) → IsPlaced all root → n < length all → Found root (path_of all n)
there all root n placed lt = go (find root (path_of all n)) refl (placed n lt)
  where
    go : (o : Option Cell) → find root (path_of all n) ≡ o → number_of o ≡ Some n → Found root (path_of all n)
    go None e h = absurd cc
    go (Some c) e h = (c, e)

pub old_path : (all : List NodePlace) (root : List Entry) (n : ℕ) (new_rows : List NewRow) (m : ℕ) → IsEnding all root n new_rows → m < length all → path_of (grown all n new_rows) m ≡ path_of all m
old_path all root n new_rows m is lm = path_kept all (map (place_in (Some n)) new_rows) (suc m) m is.older lm

pub new_path : (all : List NodePlace) (root : List Entry) (n : ℕ) (new_rows : List NewRow) (i : ℕ) (s : NewRow) → IsEnding all root n new_rows → slice_get new_rows i ≡ Some s
    → path_of (grown all n new_rows) (length all + i) ≡ path_of all n ++ new_row_path s
new_path all root n new_rows i s is at =
    path_below (grown all n new_rows) (length all + i) n (place_in (Some n) s) (older_grown all n new_rows is.older is.known)
    (get_right all (map (place_in (Some n)) new_rows) (length all + i) i refl ∙ get_map (place_in (Some n)) new_rows i s at) refl
    ∙ ap (λ x. x ++ new_row_path s) (old_path all root n new_rows n is is.known)

length_grown : (all : List NodePlace) (n : ℕ) (new_rows : List NewRow) → length (grown all n new_rows) ≡ length all + length new_rows
length_grown all n new_rows = omega (arith, length-append all (map (place_in (Some n)) new_rows), length-map new_rows (place_in (Some n)))

pub new_found : (all : List NodePlace) (root : List Entry) (n : ℕ) (st : BranchState) (new_rows : List NewRow) → IsEnding all root n new_rows
    → AreFound (grown all n new_rows) (ended_root all root n st new_rows) (path_of all n) (length all) new_rows
new_found all root n st new_rows is i s at =
    let c = there all root n is.placed is.known in
    let path = new_path all root n new_rows i s is at in
    record {
      known = omega (arith, slice_get_within new_rows i s at, length_grown all n new_rows);
      path = path;
      found = ap (find (ended_root all root n st new_rows)) path
          ∙ find_below root (path_of all n) s.group (s.place ∷ []) st (new_entries (length all) new_rows) c.0 (new_row_cell (length all + i) s) c.1
          (is.alone s.group (s.place ∷ []))
          (find_new_row new_rows (length all) i s is.rise at);
    }

-- ---- the tree afterwards

pub placed_grown : (all : List NodePlace) (root : List Entry) (n : ℕ) (st : BranchState) (new_rows : List NewRow) → IsEnding all root n new_rows → IsPlaced (grown all n new_rows) (ended_root all root n st new_rows)
placed_grown all root n st new_rows is m lm = go (nat_lt m (length all)) refl
  where
    old : m < length all → number_of (find (ended_root all root n st new_rows) (path_of (grown all n new_rows) m)) ≡ Some m
    old lt = ap (λ x. number_of (find (ended_root all root n st new_rows) x)) (old_path all root n new_rows m is lt)
        ∙ still_placed all root n st (new_entries (length all) new_rows) is.known is.placed (others all root n new_rows is) m lt

    new : (i : ℕ) → m ≡ length all + i → number_of (find (ended_root all root n st new_rows) (path_of (grown all n new_rows) m)) ≡ Some m
    new i e =
        let s = there_at new_rows i (omega (arith, lm, e, length_grown all n new_rows)) in
        ap (λ x. number_of (find (ended_root all root n st new_rows) (path_of (grown all n new_rows) x))) e
        ∙ ap number_of (new_found all root n st new_rows is i s.0 s.1).found ∙ ap (λ x. Some x) (sym e)

    go : (b : Bool) → nat_lt m (length all) ≡ b → number_of (find (ended_root all root n st new_rows) (path_of (grown all n new_rows) m)) ≡ Some m
    go true f = old (ltb-true m (length all) f)
    go false f = (let far : length all ≤ m = ltb-false m (length all) f in new (m - length all) (omega (arith, far)))

listed_append : (all : List NodePlace) (root xs ys : List Entry) → AreListed all root xs → AreListed all root ys → AreListed all root (xs ++ ys)
listed_append all root [] ys h k = k
listed_append all root (x ∷ xs) ys h k = (h.0, listed_append all root xs ys h.1 k)

pub listed_grown : (all : List NodePlace) (root es : List Entry) (n : ℕ) (st : BranchState) (new_rows : List NewRow) → IsEnding all root n new_rows → AreListed all root es
    → AreListed (grown all n new_rows) (ended_root all root n st new_rows) (with_branch es (path_of all n) st (new_entries (length all) new_rows))
listed_grown all root [] n st new_rows is l = tt
listed_grown all root (e ∷ es) n st new_rows is l =
    elim (same e.path (path_of all n)) as (λ t. same e.path (path_of all n) ≡ t
    → AreListed (grown all n new_rows) (ended_root all root n st new_rows) ((if t then changed e st (new_entries (length all) new_rows) else e ∷ []) ++ with_branch es (path_of all n) st (new_entries (length all) new_rows))) [
      | true ↦ (λ k. listed_append (grown all n new_rows) (ended_root all root n st new_rows) (changed e st (new_entries (length all) new_rows)) (with_branch es (path_of all n) st (new_entries (length all) new_rows))
          (own k, new k) (listed_grown all root es n st new_rows is l.1))
      | false ↦ (λ k. (kept k, listed_grown all root es n st new_rows is l.1))
    ] refl
  where
    known : e.cell.number < length (grown all n new_rows)
    known = omega (arith, l.0.known, length_grown all n new_rows)

    path : e.path ≡ path_of (grown all n new_rows) e.cell.number
    path = l.0.path ∙ sym (old_path all root n new_rows e.cell.number is l.0.known)

    kept : same e.path (path_of all n) ≡ false → IsAt (grown all n new_rows) (ended_root all root n st new_rows) e
    kept k = record {
      known = known;
      path = path;
      found = ap (find (ended_root all root n st new_rows)) (old_path all root n new_rows e.cell.number is l.0.known)
          ∙ find_else root (path_of all n) (path_of all e.cell.number) st (new_entries (length all) new_rows) (λ h. apart k (l.0.path ∙ sym h)) (others all root n new_rows is e.cell.number l.0.known (λ h. apart k (l.0.path ∙ ap (path_of all) (sym h))))
          ∙ l.0.found;
    }
      where
        apart : same e.path (path_of all n) ≡ false → e.path ≡ path_of all n → ⊥
        apart k h = let yes : same e.path (path_of all n) ≡ true = ap (same e.path) (sym h) ∙ same_refl e.path in cc

    own : same e.path (path_of all n) ≡ true → IsAt (grown all n new_rows) (ended_root all root n st new_rows) (record { path = e.path; cell = in_standing st e.cell })
    own k =
        let at : path_of all e.cell.number ≡ path_of all n = sym l.0.path ∙ same_true e.path (path_of all n) k in
        record {
          known = known;
          path = path;
          found = ap (find (ended_root all root n st new_rows)) (old_path all root n new_rows e.cell.number is l.0.known ∙ at)
              ∙ find_at root (path_of all n) st (new_entries (length all) new_rows) ∙ ap (λ p. entered st (find root p)) (sym at) ∙ ap (entered st) l.0.found;
        }

    new : same e.path (path_of all n) ≡ true → AreListed (grown all n new_rows) (ended_root all root n st new_rows) (map (led e.path) (new_entries (length all) new_rows))
    new k =
        let P : List ℕ → Type 0 = λ x. AreListed (grown all n new_rows) (ended_root all root n st new_rows) (map (led x) (new_entries (length all) new_rows)) in
        subst P (sym (same_true e.path (path_of all n) k))
        (listed_found (grown all n new_rows) (ended_root all root n st new_rows) (path_of all n) (length all) new_rows (new_found all root n st new_rows is))

ranked_append : (rules : Rules) (xs ys : List Entry) → AreRanked rules xs → AreRanked rules ys → AreRanked rules (xs ++ ys)
ranked_append rules [] ys h k = k
ranked_append rules (x ∷ xs) ys h k = (h.0, ranked_append rules xs ys h.1 k)

ranked_led : (rules : Rules) (p : List ℕ) (xs : List Entry) → AreRanked rules xs → AreRanked rules (map (led p) xs)
ranked_led rules p [] h = h
ranked_led rules p (x ∷ xs) h = (h.0, ranked_led rules p xs h.1)

pub ranked_grown : (rules : Rules) (all : List NodePlace) (root es : List Entry) (n : ℕ) (st : BranchState) (b : List Entry) → IsPlaced all root → n < length all → AreListed all root es → AreRanked rules es
    → AreRanked rules b → st.answer ≡ kept_of rules n st.state → AreRanked rules (with_branch es (path_of all n) st b)
ranked_grown rules all root [] n st b placed lt l r rb a = tt
ranked_grown rules all root (e ∷ es) n st b placed lt l r rb a = grind (arith, common_steps, ranked_append rules (changed e st b) (with_branch es (path_of all n) st b), ranked_grown rules all root es n st b placed lt l.1 r.1 rb a, changed, ranked_led, same_true)

ending : (rules : Rules) (all : List NodePlace) (root new b : List Entry) (t : Summary) (n : ℕ) (st : BranchState) (new_rows : List NewRow) (count : ℕ)
    → IsTree rules all root t → n < length all
    → AreRising new_rows → Changes root new (path_of all n) st b count → IsEnding all root n new_rows
ending rules all root new b t n st new_rows count was lt rise h = record { older = was.older; placed = was.placed; known = lt; alone = h.alone; rise = rise }

pub tree_ended : (rules : Rules) (all : List NodePlace) (root new : List Entry) (t r : Summary) (n : ℕ) (st : BranchState) (new_rows : List NewRow) (first count : ℕ)
    → IsTree rules all root t
    → n < length all → AreRising new_rows → st.answer ≡ kept_of rules n st.state → first ≡ length all → first + length new_rows ≤ most_targets
    → Changes root new (path_of all n) st (new_entries first new_rows) count → Better t.kept st.answer r.kept → r.open_count + 1 ≡ t.open_count + count
    → IsTree rules (grown all n new_rows) new r
tree_ended rules all root new t r n st new_rows first count was lt rise a at few h better open_count = grind (arith, common_steps, ending rules all root new (new_entries first new_rows) t n st new_rows count was lt rise h, new_rows_ranked rules (length all) new_rows, length_new_entries first new_rows, length_grown all n new_rows, older_grown, placed_grown, listed_grown, ranked_grown, summary_gained)

-- ---- the rows afterwards

rows_append : (all : List NodePlace) (root : List Entry) (k : ℕ) (xs ys : List NodePlace) → rows_from all root k (xs ++ ys) ≡ rows_from all root k xs ++ rows_from all root (k + length xs) ys
rows_append all root k [] ys = let at : k ≡ k + 0 = omega arith in ap (λ x. rows_from all root x ys) at
rows_append all root k (x ∷ xs) ys = grind (arith, rows_append all root (suc k) xs ys)

rows_old : (all : List NodePlace) (root new : List Entry) (n : ℕ) (new_rows : List NewRow) (k : ℕ) (ps : List NodePlace) → IsEnding all root n new_rows → k + length ps ≤ length all
    → rows_from (grown all n new_rows) new k ps ≡ rows_from all new k ps
rows_old all root new n new_rows k [] is le = refl
rows_old all root new n new_rows k (p ∷ ps) is le =
    ap (λ x. row_at p (find new x) ∷ rows_from (grown all n new_rows) new (suc k) ps) (old_path all root n new_rows k is (omega (arith, le)))
    ∙ ap (λ r. row_at p (find new (path_of all k)) ∷ r) (rows_old all root new n new_rows (suc k) ps is (omega (arith, le)))

pub rows_ended : (rules : Rules) (all : List NodePlace) (root new : List Entry) (t : Summary) (n : ℕ) (st : BranchState) (new_rows : List NewRow) (first count : ℕ)
    → IsTree rules all root t → n < length all
    → AreRising new_rows → first ≡ length all → Changes root new (path_of all n) st (new_entries first new_rows) count
    → rows_of (grown all n new_rows) new ≡ with_state (rows_of all root) n (plain_state st.state) ++ map (waiting_row (Some n)) new_rows
rows_ended rules all root new t n st new_rows first count was lt rise at h =
    let is = ending rules all root new (new_entries first new_rows) t n st new_rows count was lt rise h in
    let new_is : new ≡ ended_root all root n st new_rows = h.branch ∙ ap (λ x. with_branch root (path_of all n) st (new_entries x new_rows)) at in
    let end : List Entry = ended_root all root n st new_rows in
    let shift : 0 + length all ≡ length all = omega arith in
    ap (rows_of (grown all n new_rows)) new_is ∙ rows_append (grown all n new_rows) end 0 all (map (place_in (Some n)) new_rows)
    ∙ ap (λ x. x ++ rows_from (grown all n new_rows) end (0 + length all) (map (place_in (Some n)) new_rows))
    (rows_old all root end n new_rows 0 all is (omega arith) ∙ one_row_changes all root n st (new_entries (length all) new_rows) is.placed (others all root n new_rows is) is.known)
    ∙ ap (λ x. with_state (rows_of all root) n (plain_state st.state) ++ rows_from (grown all n new_rows) end x (map (place_in (Some n)) new_rows)) shift
    ∙ ap (λ x. with_state (rows_of all root) n (plain_state st.state) ++ x)
    (rows_found (grown all n new_rows) end (path_of all n) (Some n) (length all) new_rows (new_found all root n st new_rows is))

pub open_unended : (o : Option Row) → IsTrue (is_row is_open o) → IsTrue (is_row is_unended o)
open_unended o h = grind arith
