-- Parts closed one after another are the whole closed.
use Rattle.fork_tree.proofs.Common.{◌-◌, Option, inl, inr, false, ◌≡◌, ℕ, zero, suc, ◌+◌, ◌<◌, ◌≤◌, List, [], ◌∷◌, ◌++◌, length, map, refl, ap, sym, ◌∙◌, arith, get_or, set, map-append, RankedAnswer, State, has_ended, closed_state, BranchState, Summary}
use Rattle.fork_tree.proofs.Common.{HasKept, IsKept, open_state, open_of, IsNode, Entry, pushed, joined, closed_standing, closed_entry, closed_to, get_or_default, common_steps}
use Rattle.fork_tree.proofs.Summaries.{opens_joined}
use Rattle.fork_tree.proofs.BranchChanges.{length_part}

pub length_closed_to : (i : ℕ) (parts : List (List Entry)) → length (closed_to i parts) ≡ length parts
length_closed_to zero parts = refl
length_closed_to (suc i) [] = refl
length_closed_to (suc i) (p ∷ ps) = omega (arith, length_closed_to i ps)

pub closed_to_at : (i : ℕ) (parts : List (List Entry)) (d : List Entry) → get_or (closed_to i parts) i d ≡ get_or parts i d
closed_to_at zero parts d = refl
closed_to_at (suc i) [] d = refl
closed_to_at (suc i) (p ∷ ps) d = closed_to_at i ps d

pub closed_to_more : (i : ℕ) (parts : List (List Entry)) (d : List Entry) → i < length parts → set (closed_to i parts) i (map closed_entry (get_or parts i d)) ≡ closed_to (i + 1) parts
closed_to_more i [] d h = absurd (omega arith)
closed_to_more zero (p ∷ ps) d h = refl
closed_to_more (suc i) (p ∷ ps) d h =
    let at : suc i + 1 ≡ suc (i + 1) = omega arith in
    ap (λ r. map closed_entry p ∷ r) (closed_to_more i ps d (omega arith)) ∙ ap (λ n. closed_to n (p ∷ ps)) (sym at)

pub map_pushed : (j : ℕ) (rows : List Entry) → map closed_entry (map (pushed j) rows) ≡ map (pushed j) (map closed_entry rows)
map_pushed j [] = refl
map_pushed j (e ∷ es) = ap (λ r. closed_entry (pushed j e) ∷ r) (map_pushed j es)

pub closed_all : (j i : ℕ) (parts : List (List Entry)) → length parts ≤ i → joined j (closed_to i parts) ≡ map closed_entry (joined j parts)
closed_all j zero [] h = refl
closed_all j (suc i) [] h = refl
closed_all j zero (p ∷ ps) h = absurd (omega arith)
closed_all j (suc i) (p ∷ ps) h =
    ap (λ r. map (pushed j) (map closed_entry p) ++ r) (closed_all (suc j) i ps (omega arith))
    ∙ ap (λ r. r ++ map closed_entry (joined (suc j) ps)) (sym (map_pushed j p))
    ∙ sym (map-append closed_entry (map (pushed j) p) (joined (suc j) ps))

pub close_part : (rows : List Entry) (parts items : List (List Entry)) (i : ℕ) (part : List Entry) → joined 0 parts ≡ rows → items ≡ closed_to i parts → part ≡ get_or items i part → i < length items → length part ≤ length rows
close_part rows parts items i part v e is lt = grind (arith, common_steps, closed_to_at i parts part, length_closed_to i parts, length_part 0 i parts, get_or_default)

pub close_more : (parts items : List (List Entry)) (i : ℕ) (part new : List Entry) → items ≡ closed_to i parts → part ≡ get_or items i part → i < length items → new ≡ map closed_entry part → set items i new ≡ closed_to (i + 1) parts
close_more parts items i part new e is lt n = grind (arith, closed_to_at, closed_to_more, length_closed_to)

pub close_done : (rows : List Entry) (parts items : List (List Entry)) (i : ℕ) → joined 0 parts ≡ rows → items ≡ closed_to i parts → length items ≤ i → joined 0 items ≡ map closed_entry rows
close_done rows parts items i v e h = grind (arith, closed_all, length_closed_to)

-- ---- what is kept, and what has not ended

pub has_closed : (rows : List Entry) (o : RankedAnswer) → HasKept (map closed_entry rows) o → HasKept rows o
has_closed [] o h = h
has_closed (e ∷ es) o h = elim h [ inl k ↦ inl k | inr t ↦ inr (has_closed es o t) ]

pub closed_has : (rows : List Entry) (o : RankedAnswer) → HasKept rows o → HasKept (map closed_entry rows) o
closed_has [] o h = h
closed_has (e ∷ es) o h = elim h [ inl k ↦ inl k | inr t ↦ inr (closed_has es o t) ]

pub kept_closed : (rows : List Entry) (kept : Option RankedAnswer) → IsKept rows kept → IsKept (map closed_entry rows) kept
kept_closed rows kept h = grind (arith, has_closed, closed_has)

pub closed_open : (s : State) → open_state (closed_state s) ≤ open_state s
closed_open s = grind arith

pub closed_waits : (s : State) → has_ended (closed_state s) ≡ false → has_ended s ≡ false
closed_waits s h = grind arith

-- one more part is closed
pub count_more : (parts items : List (List Entry)) (i : ℕ) (part new : List Entry) (before more : ℕ) → part ≡ get_or items i part → i < length items
    → open_of (joined 0 items) + before ≡ open_of (joined 0 parts) → open_of new + more ≡ open_of part → open_of (joined 0 (set items i new)) + (before + more) ≡ open_of (joined 0 parts)
count_more parts items i part new before more is lt was now = grind (arith, common_steps, opens_joined)

-- a node closed
pub node_closed : (n q : ℕ) (s new : BranchState) (below rest : List Entry) (t : Summary) (before now more : ℕ) → IsNode n q s below t → new ≡ closed_standing s → rest ≡ map closed_entry below
    → before ≡ open_state s.state → now ≡ open_state new.state → open_of rest + more ≡ open_of below
    → IsNode n q new rest (record { kept = t.kept; open_count = t.open_count - (before - now + more) })
node_closed n q s new below rest t before now more was e f was_open is_open count = grind (arith, common_steps, closed_open, kept_closed, closed_waits)
