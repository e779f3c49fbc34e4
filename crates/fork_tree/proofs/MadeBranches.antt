-- Branches made one after another stand where new rows go.
use Rattle.fork_tree.proofs.Common.{◌≡◌, ℕ, suc, ◌+◌, ◌<◌, ◌≤◌, Bool, List, [], ◌∷◌, ◌++◌, length, map, drop, Option, Some, ap, ◌∙◌, arith, append_assoc, length-append, get_or, if◌then◌else◌, append-nil, map-append, NewRow, Entry, node_rows, pushed}
use Rattle.fork_tree.proofs.Common.{joined, AreWaiting, differs, new_rows_from, idle, new_entries, common_steps}
use Rattle.fork_tree.proofs.Summaries.{open_append, open_pushed}
use Rattle.std.proofs.Math.Seq.{drop-cons}

pub joined_more : (j : ℕ) (xs : List (List Entry)) (n : List Entry) → joined j (xs ++ n ∷ []) ≡ joined j xs ++ map (pushed (j + length xs)) n
joined_more j [] n = let at : j ≡ j + 0 = omega arith in append-nil (map (pushed j) n) ∙ ap (λ k. map (pushed k) n) at
joined_more j (x ∷ xs) n = grind (arith, common_steps, joined_more (suc j) xs n)

-- the nodes so far become a group
pub group_made : (groups new : List (List Entry)) (nodes : List Entry) → new ≡ groups ++ nodes ∷ []
    → joined 0 new ≡ joined 0 groups ++ map (pushed (length groups)) nodes
group_made groups new nodes e = grind (arith, joined_more)

pub group_begun : (groups new nodes next : List (List Entry)) → new ≡ groups ++ joined 0 nodes ∷ [] → next ≡ []
    → joined 0 new ++ map (pushed (length new)) (joined 0 next) ≡ joined 0 groups ++ map (pushed (length groups)) (joined 0 nodes)
group_begun groups new nodes next e f = grind (arith, common_steps, group_made)

new_row_pushed : (n : ℕ) (new_rows : List NewRow) (s : NewRow) (k : ℕ) → k ≡ n + length new_rows
    → new_entries n (new_rows ++ s ∷ []) ≡ new_entries n new_rows ++ record { path = s.group ∷ s.place ∷ []; cell = record { number = k; q = s.q; standing = idle } } ∷ []
new_row_pushed n [] s k e = let at : n ≡ k = omega arith in ap (λ m. record { path = s.group ∷ s.place ∷ []; cell = record { number = m; q = s.q; standing = idle } } ∷ []) at
new_row_pushed n (t ∷ ts) s k e =
    ap (λ r. record { path = t.group ∷ t.place ∷ []; cell = record { number = n; q = t.q; standing = idle } } ∷ r) (new_row_pushed (suc n) ts s k (omega arith))

-- one more node
pub row_waiting_row : (groups nodes more : List (List Entry)) (first k : ℕ) (new_rows : List NewRow) (s : NewRow)
    → joined 0 groups ++ map (pushed (length groups)) (joined 0 nodes) ≡ new_entries first new_rows
    → k ≡ first + length new_rows → s.group ≡ length groups → s.place ≡ length nodes
    → more ≡ nodes ++ node_rows k s.q idle [] ∷ []
    → joined 0 groups ++ map (pushed (length groups)) (joined 0 more) ≡ new_entries first (new_rows ++ s ∷ [])
row_waiting_row groups nodes more first k new_rows s was e g p m = grind (arith, common_steps, new_row_pushed first new_rows s k e, joined_more, map-append, append_assoc)

-- one more that waits
pub waiting_more : (nodes more : List (List Entry)) (k q : ℕ) → AreWaiting nodes → more ≡ nodes ++ node_rows k q idle [] ∷ [] → AreWaiting more
waiting_more nodes more k q w m =
    let one : List Entry = map (pushed (0 + length nodes)) (node_rows k q idle []) in
    grind (arith, common_steps, length-append nodes (node_rows k q idle [] ∷ []), joined_more 0 nodes (node_rows k q idle []), open_append (joined 0 nodes) one, open_pushed (0 + length nodes) (node_rows k q idle []))

pub begun_le : (b : Bool) (n i : ℕ) → n ≤ i → (if b then suc n else n) ≤ i + 1
begun_le b n i h = grind arith

pub rest_le : (b : Bool) (n i : ℕ) → n ≤ i → (if b then 0 else n) ≤ i
rest_le b n i h = grind arith

-- one more new row
pub new_rows_more : (qs : List ℕ) (i : ℕ) (new_rows all : List NewRow) (before : Option ℕ) (groups nodes : ℕ) (s : NewRow)
    → new_rows ++ new_rows_from before groups nodes (drop i qs) ≡ all → i < length qs → s.q ≡ get_or qs i 0
    → s.group ≡ (if differs before s.q then suc groups else groups) → s.place ≡ (if differs before s.q then 0 else nodes)
    → (new_rows ++ s ∷ []) ++ new_rows_from (Some s.q) s.group (s.place + 1) (drop (i + 1) qs) ≡ all
new_rows_more qs i new_rows all before groups nodes s was lt at g p = grind (arith, common_steps, drop-cons qs i 0 lt, append_assoc)
