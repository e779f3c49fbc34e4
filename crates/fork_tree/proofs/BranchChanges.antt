-- A change at a path goes into the part that the path names.
use Rattle.fork_tree.proofs.Common.{◌≡◌, ℕ, zero, suc, ◌+◌, ◌<◌, ◌≤◌, false, IsTrue, List, [], ◌∷◌, ◌++◌, length, map, Option, Some, None, refl, ap, sym, subst, ◌∙◌, arith, get_or, length-append, if◌then◌else◌, set, append-nil, eq-eqb, BranchState}
use Rattle.fork_tree.proofs.Common.{has_ended, Cell, Entry, same, find, pushed, joined, is_open_cell, open_at, led, in_standing, with_branch, ne_eqb, nil_from_length, get_or_default, map-id, MayEnd, length_pushed, common_steps}

pub find_pushed : (k : ℕ) (rows : List Entry) (path : List ℕ) → find (map (pushed k) rows) (k ∷ path) ≡ find rows path
find_pushed k [] path = refl
find_pushed k (e ∷ es) path = rw (eq-eqb k k refl) (ap (λ r. if same e.path path then Some e.cell else r) (find_pushed k es path))

pub find_other : (j k : ℕ) (rows : List Entry) (path : List ℕ) → (j ≡ k → ⊥) → find (map (pushed j) rows) (k ∷ path) ≡ None
find_other j k [] path h = refl
find_other j k (e ∷ es) path h = rw (ne_eqb j k h) (find_other j k es path h)

pub find_past : (xs ys : List Entry) (path : List ℕ) → find xs path ≡ None → find (xs ++ ys) path ≡ find ys path
find_past [] ys path h = refl
find_past (x ∷ xs) ys path h = grind (arith, find_past xs ys path)

pub find_before : (xs ys : List Entry) (path : List ℕ) → find ys path ≡ None → find (xs ++ ys) path ≡ find xs path
find_before [] ys path h = h
find_before (x ∷ xs) ys path h = ap (λ r. if same x.path path then Some x.cell else r) (find_before xs ys path h)

pub find_later : (j k : ℕ) (parts : List (List Entry)) (path : List ℕ) → k < j → find (joined j parts) (k ∷ path) ≡ None
find_later j k [] path h = refl
find_later j k (x ∷ xs) path h =
    find_past (map (pushed j) x) (joined (suc j) xs) (k ∷ path) (find_other j k x path (λ e. omega arith)) ∙ find_later (suc j) k xs path (omega arith)

-- what stands in the part of this number
pub find_joined : (j i k : ℕ) (parts : List (List Entry)) (path : List ℕ) → k ≡ j + i → find (joined j parts) (k ∷ path) ≡ find (get_or parts i []) path
find_joined j i k [] path e = refl
find_joined j zero k (x ∷ xs) path e = grind (arith, find_before, find_later, find_pushed)
find_joined j (suc i) k (x ∷ xs) path e =
    find_past (map (pushed j) x) (joined (suc j) xs) (k ∷ path) (find_other j k x path (λ h. omega arith)) ∙ find_joined (suc j) i k xs path (omega arith)

pub inside : (i : ℕ) (parts : List (List Entry)) (path : List ℕ) → IsTrue (is_open_cell (find (get_or parts i []) path)) → i < length parts
inside i [] path h = absurd cc
inside zero (x ∷ xs) path h = omega arith
inside (suc i) (x ∷ xs) path h = omega (arith, inside i xs path h)

pub map_twice : (k : ℕ) (path : List ℕ) (rows : List Entry) → map (led (k ∷ path)) rows ≡ map (pushed k) (map (led path) rows)
map_twice k path [] = refl
map_twice k path (e ∷ es) = ap (λ r. led (k ∷ path) e ∷ r) (map_twice k path es)

pub with_branch_append : (xs ys : List Entry) (path : List ℕ) (s : BranchState) (b : List Entry) → with_branch (xs ++ ys) path s b ≡ with_branch xs path s b ++ with_branch ys path s b
with_branch_append [] ys path s b = refl
with_branch_append (x ∷ xs) ys path s b = grind (arith, common_steps, with_branch_append xs ys path s b)

pub with_branch_pushed : (k : ℕ) (rows : List Entry) (path : List ℕ) (s : BranchState) (b : List Entry) → with_branch (map (pushed k) rows) (k ∷ path) s b ≡ map (pushed k) (with_branch rows path s b)
with_branch_pushed k [] path s b = refl
with_branch_pushed k (e ∷ es) path s b = grind (arith, common_steps, map_twice, with_branch_pushed k es path s b)

pub with_branch_other : (j k : ℕ) (rows : List Entry) (path : List ℕ) (s : BranchState) (b : List Entry) → (j ≡ k → ⊥) → with_branch (map (pushed j) rows) (k ∷ path) s b ≡ map (pushed j) rows
with_branch_other j k [] path s b h = refl
with_branch_other j k (e ∷ es) path s b h = rw (ne_eqb j k h) (ap (λ r. pushed j e ∷ r) (with_branch_other j k es path s b h))

pub with_branch_later : (j k : ℕ) (parts : List (List Entry)) (path : List ℕ) (s : BranchState) (b : List Entry) → k < j → with_branch (joined j parts) (k ∷ path) s b ≡ joined j parts
with_branch_later j k [] path s b h = refl
with_branch_later j k (x ∷ xs) path s b h =
    with_branch_append (map (pushed j) x) (joined (suc j) xs) (k ∷ path) s b
    ∙ ap (λ r. r ++ with_branch (joined (suc j) xs) (k ∷ path) s b) (with_branch_other j k x path s b (λ e. omega arith))
    ∙ ap (λ r. map (pushed j) x ++ r) (with_branch_later (suc j) k xs path s b (omega arith))

pub with_branch_joined : (j i k : ℕ) (parts : List (List Entry)) (path : List ℕ) (s : BranchState) (b : List Entry) → k ≡ j + i → i < length parts
    → with_branch (joined j parts) (k ∷ path) s b ≡ joined j (set parts i (with_branch (get_or parts i []) path s b))
with_branch_joined j i k [] path s b e h = absurd (omega arith)
with_branch_joined j zero k (x ∷ xs) path s b e h = grind (arith, common_steps, with_branch_append (map (pushed j) x) (joined (suc j) xs) (j ∷ path) s b, with_branch_pushed j x path s b, with_branch_later)
with_branch_joined j (suc i) k (x ∷ xs) path s b e h =
    with_branch_append (map (pushed j) x) (joined (suc j) xs) (k ∷ path) s b
    ∙ ap (λ r. r ++ with_branch (joined (suc j) xs) (k ∷ path) s b) (with_branch_other j k x path s b (λ t. omega arith))
    ∙ ap (λ r. map (pushed j) x ++ r) (with_branch_joined (suc j) i k xs path s b (omega arith) (omega arith))

pub step_in : (rows : List Entry) (parts : List (List Entry)) (path rest : List ℕ) (i : ℕ) → joined 0 parts ≡ rows → path ≡ i ∷ rest → IsTrue (open_at rows path) → i < length parts
step_in rows parts path rest i v p h =
    let P : Option Cell → Type 0 = λ x. IsTrue (is_open_cell x) in
    inside i parts rest (subst P (sym (ap (λ r. find r path) v) ∙ ap (λ q. find (joined 0 parts) q) p ∙ find_joined 0 i i parts rest (omega arith)) h)

pub step_open : (rows : List Entry) (parts : List (List Entry)) (path rest : List ℕ) (i : ℕ) (part : List Entry) → joined 0 parts ≡ rows → path ≡ i ∷ rest
    → part ≡ get_or parts i part → IsTrue (open_at rows path) → IsTrue (open_at part rest)
step_open rows parts path rest i part v p is h =
    let lt : i < length parts = step_in rows parts path rest i v p h in
    grind (arith, common_steps, get_or_default parts i part [] lt, find_joined)

pub never_here : (parts : List (List Entry)) (j : ℕ) → find (joined j parts) [] ≡ None
never_here [] j = refl
never_here (x ∷ xs) j = find_past (map (pushed j) x) (joined (suc j) xs) [] (none j x) ∙ never_here xs (suc j)
  where
    none : (j : ℕ) (x : List Entry) → find (map (pushed j) x) [] ≡ None
    none j [] = refl
    none j (e ∷ es) = none j es

-- a row with nothing below it
pub node_here : (e : Entry) (s : BranchState) (b : List Entry) → e.path ≡ [] → with_branch (e ∷ []) [] s b ≡ record { path = []; cell = in_standing s e.cell } ∷ b
node_here e s b h = rw h (ap (λ r. record { path = []; cell = in_standing s e.cell } ∷ r) (append-nil (map (led []) b) ∙ map-id b))

-- no new row stands at the empty path
pub none_here : (rows : List Entry) (parts : List (List Entry)) (path : List ℕ) → joined 0 parts ≡ rows → length path ≡ 0 → IsTrue (open_at rows path) → ⊥
none_here rows parts path v p h = grind (arith, common_steps, never_here)

-- a node whose path is empty
pub at_node : (rows below : List Entry) (c : Cell) (path : List ℕ) → record { path = []; cell = c } ∷ below ≡ rows → length path ≡ 0
    → IsTrue (open_at rows path)
    → has_ended c.standing.state ≡ false
at_node rows below c path v p h = grind arith

-- a node whose own row changes
pub node_ends : (rows below : List Entry) (c : Cell) (path : List ℕ) (s : BranchState) (b : List Entry) → record { path = []; cell = c } ∷ below ≡ rows → length path ≡ 0
    → (has_ended c.standing.state ≡ false → below ≡ []) → IsTrue (open_at rows path) → record { path = []; cell = in_standing s c } ∷ b ≡ with_branch rows path s b
node_ends rows below c path s b v p none h =
    let own : Entry = record { path = []; cell = c } in
    grind (arith, common_steps, node_here own s b refl, at_node rows below c path v p h, nil_from_length path p)

pub length_part : (j i : ℕ) (parts : List (List Entry)) → length (get_or parts i []) ≤ length (joined j parts)
length_part j i [] = omega arith
length_part j zero (x ∷ xs) = omega (arith, length-append (map (pushed j) x) (joined (suc j) xs), length_pushed j x)
length_part j (suc i) (x ∷ xs) = omega (arith, length-append (map (pushed j) x) (joined (suc j) xs), length_part (suc j) i xs)

-- what the step down asks
pub step_few : (rows : List Entry) (parts : List (List Entry)) (path rest : List ℕ) (i : ℕ) (part b : List Entry) (s : BranchState) (count : ℕ)
    → joined 0 parts ≡ rows → path ≡ i ∷ rest
    → part ≡ get_or parts i part → MayEnd rows path s b count → MayEnd part rest s b count
step_few rows parts path rest i part b s count v p is h =
    let lt : i < length parts = step_in rows parts path rest i v p h.there in
    grind (arith, common_steps, get_or_default parts i part [] lt, length_part 0 i parts, step_open)
