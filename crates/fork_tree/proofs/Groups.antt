-- What the search finds in a group, and in the groups of a level.
use Rattle.fork_tree.proofs.Common.{◌≡◌, ℕ, suc, ◌+◌, ◌<◌, ◌≤◌, inr, Bool, true, false, IsTrue, List, [], ◌∷◌, length, map, Option, Some, None, refl, ap, sym, subst, ◌∙◌, arith, get_or, ltb, ltb-true, ltb-false, is_some, is_idle, BranchState, State}
use Rattle.fork_tree.proofs.Common.{plain_state, has_ended, Cell, Entry, find, node_rows, pushed, joined, number_of, under, open_of, IsStarted, waits_in, FindsFirst, FindsHere, get_or_past, get_or_default, common_steps}
use Rattle.fork_tree.specs.inner.Search.{IsWaiting, FindsGroup, FindsBelow}
use Rattle.fork_tree.proofs.BranchChanges.{find_joined}
use Rattle.fork_tree.proofs.Summaries.{open_append, open_pushed}
use Rattle.fork_tree.proofs.Unders.{child_in, part_under, under_joined, under_none}

-- ---- one branch

waits_open : (s : State) → is_idle (plain_state s) ≡ true → has_ended s ≡ false
waits_open s e = grind arith

-- ---- a group

-- the first so many branches wait
abbrev pub AreWaiting : List (List Entry) → ℕ → Type 0
AreWaiting nodes i = (k : ℕ) → k < i → IsWaiting (get_or nodes k []) true

pub waiting_more : (nodes : List (List Entry)) (i : ℕ) (node : List Entry) (b : Bool) → AreWaiting nodes i → i < length nodes → node ≡ get_or nodes i node → IsWaiting node b → b ≡ true
    → AreWaiting nodes (i + 1)
waiting_more nodes i node b all lt is h e k less = go (ltb k i) refl
  where
    go : (t : Bool) → ltb k i ≡ t → IsWaiting (get_or nodes k []) true
    go true f = all k (ltb-true k i f)
    go false f =
        let at : i ≡ k = omega (arith, ltb-false k i f, less) in
        subst (λ (j : ℕ). IsWaiting (get_or nodes j []) true) at
        (subst (λ (x : List Entry). IsWaiting x true) (is ∙ get_or_default nodes i node [] lt) (subst (IsWaiting node) e h))

pub one_started : (rows : List Entry) (nodes : List (List Entry)) (i : ℕ) (node : List Entry) (b : Bool) → joined 0 nodes ≡ rows → i < length nodes → node ≡ get_or nodes i node
    → IsWaiting node b → b ≡ false → FindsGroup rows None
one_started rows nodes i node b v lt is h e = (
  i,
  subst IsStarted
      (ap (λ x. find x []) (is ∙ get_or_default nodes i node [] lt) ∙ sym (find_joined 0 i i nodes [] (omega arith)) ∙ ap (λ r. find r (i ∷ [])) v)
      (subst (IsWaiting node) e h),
)

-- as many have not ended as wait
waiting_count : (j : ℕ) (nodes : List (List Entry)) → AreWaiting nodes (length nodes) → open_of (joined j nodes) ≡ length nodes
waiting_count j [] all = refl
waiting_count j (x ∷ xs) all =
    let first : IsWaiting x true = all 0 (omega arith) in
    let rest : open_of (joined (suc j) xs) ≡ length xs = waiting_count (suc j) xs (λ k lt. all (suc k) (omega (arith, lt))) in
    grind (arith, common_steps, open_append (map (pushed j) x) (joined (suc j) xs), open_pushed j x, waits_open)

waits_found : (node : List Entry) → IsWaiting node true → waits_in (find node []) ≡ true
waits_found node h = ap (λ (r : List Entry). waits_in (find r [])) h.1 ∙ h.2

pub some_node : (rows : List Entry) (nodes : List (List Entry)) → joined 0 nodes ≡ rows → 0 < open_of rows → 0 < length nodes
some_node rows nodes v h = grind (arith, common_steps)

pub all_waiting : (rows : List Entry) (nodes : List (List Entry)) (node : List Entry) (i first open_count : ℕ) → joined 0 nodes ≡ rows → 0 < open_of rows → open_count ≡ open_of (joined 0 nodes)
    → length nodes ≤ i → AreWaiting nodes i → node ≡ get_or nodes 0 node → number_of (find node []) ≡ Some first → FindsGroup rows (Some (first, open_count))
all_waiting rows nodes node i first open_count v goes_on counted past all is number =
    record {
      some = omega (arith, counted, ap open_of v, goes_on);
      first_there = ap number_of (at 0 ∙ ap (λ x. find x []) (sym (is ∙ get_or_default nodes 0 node [] (some_node rows nodes v goes_on)))) ∙ number;
      wait = λ place lt. ap waits_in (at place) ∙ waits_found (get_or nodes place []) (every place (omega (arith, lt, count)));
      whole = λ place cell there.
          (let in_group : place < length nodes = child_in rows nodes place [] v (subst (λ (o : Option Cell). IsTrue (is_some o)) (sym there) cc) in omega (arith, in_group, count));
    }
  where
    every : AreWaiting nodes (length nodes)
    every k lt = all k (omega (arith, lt, past))

    count : open_count ≡ length nodes
    count = counted ∙ waiting_count 0 nodes every

    at : (place : ℕ) → find rows (place ∷ []) ≡ find (get_or nodes place []) []
    at place = ap (λ r. find r (place ∷ [])) (sym v) ∙ find_joined 0 place place nodes [] (omega arith)

-- ---- the groups of a level

-- all has ended in the first so many groups
abbrev pub AreOver : List Entry → ℕ → Type 0
AreOver rows i = (j : ℕ) → j < i → open_of (under (j ∷ []) rows) ≡ 0

pub over_more : (rows : List Entry) (groups : List (List Entry)) (i : ℕ) (group : List Entry) (count : ℕ) → joined 0 groups ≡ rows → AreOver rows i → i < length groups
    → group ≡ get_or groups i group → count ≡ open_of group → count ≤ 0 → AreOver rows (i + 1)
over_more rows groups i group count v over lt is counted none j less = grind (arith, common_steps, part_under rows groups i group v is lt, ltb-true, ltb-false)

pub group_found : (rows : List Entry) (groups : List (List Entry)) (i : ℕ) (group : List Entry) (r : Option (ℕ × ℕ)) → joined 0 groups ≡ rows → AreOver rows i → i < length groups
    → group ≡ get_or groups i group → 0 < open_of group → FindsGroup group r → FindsHere rows r
group_found rows groups i group r v over lt is some found = grind (arith, common_steps, part_under rows groups i group v is lt)

pub all_over : (rows : List Entry) (groups : List (List Entry)) (i : ℕ) → joined 0 groups ≡ rows → AreOver rows i → length groups ≤ i → FindsHere rows None
all_over rows groups i v over past = inr (λ j. go j (ltb j i) refl)
  where
    go : (j : ℕ) (t : Bool) → ltb j i ≡ t → open_of (under (j ∷ []) rows) ≡ 0
    go j true e = over j (ltb-true j i e)
    go j false e =
        let far : length groups ≤ j = omega (arith, past, ltb-false j i e) in
        ap open_of
        (ap (under (j ∷ [])) (sym v) ∙ under_joined 0 j j groups [] (omega arith) ∙ under_none (get_or groups j []) ∙ get_or_past groups j [] far)

-- ---- below a branch

down : (e : Entry) (below : List Entry) (r : Option (ℕ × ℕ)) → e.path ≡ [] → FindsFirst below r → FindsFirst (e ∷ below) r
down e below r top f = grind (arith, common_steps)

pub found_below : (number q : ℕ) (s : BranchState) (below rows : List Entry) (r : Option (ℕ × ℕ)) → (has_ended s.state ≡ false → below ≡ []) → node_rows number q s below ≡ rows
    → FindsHere below r → FindsBelow rows r
found_below number q s below rows r alone v found = grind arith
