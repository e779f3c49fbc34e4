-- Rows come below their parents, run by run.
use Rattle.fork_tree.proofs.Common.{◌≡◌, ℕ, zero, suc, ◌+◌, ◌-◌, ◌<◌, ◌≤◌, inl, inr, List, [], ◌∷◌, ◌++◌, length, map, take, drop, Option, Some, None, IsTrue, slice_get, IsSome, refl, ap, sym, subst, ◌∙◌, arith, length-append, length-map, map-append}
use Rattle.fork_tree.proofs.Common.{Row, is_row, is_idle, with_state, RowRef, State, Ended, NewRow, plain_state, new_rows_of, waiting_row, Tree, cases_lt, length-state, get_right, there_at, slice_get_past, slice_get_within, get_or_from_slice_get}
use Rattle.fork_tree.proofs.Common.{AreRows, IsBeside, IsFirstUnder, given_row, IsHalf, AllHalf, IsRun, IsStanding, q_of, stays, common_steps, rules}
use Rattle.std.proofs.Common.{take-append-drop}
use Rattle.fork_model.specs.Table as spec
use Rattle.fork_tree.specs.declared.row.End.{End}
use Rattle.fork_tree.proofs.Opening.{new_rows_count}
use Rattle.fork_tree.proofs.Building.{half_with, half_append, half_waiting_row, given_next, AreBeside}
use Rattle.std.proofs.Math.Seq.{take-suc}

-- ---- lists

pub get_drop : (xs : List RowRef) (f k n : ℕ) → n ≡ f + k → slice_get (drop f xs) k ≡ slice_get xs n
get_drop xs zero k n e = let at : k ≡ n = omega (arith, e) in ap (slice_get xs) at
get_drop [] (suc f) k n e = refl
get_drop (x ∷ xs) (suc f) k zero e = absurd (omega (arith, e))
get_drop (x ∷ xs) (suc f) k (suc n) e = get_drop xs f k n (omega (arith, e))

pub take_one : (xs : List RowRef) (k : ℕ) (x : RowRef) → slice_get xs k ≡ Some x → take (suc k) xs ≡ take k xs ++ x ∷ []
take_one xs k x is = take-suc xs k x (slice_get_within xs k x is) ∙ ap (λ y. take k xs ++ y ∷ []) (get_or_from_slice_get xs k x x is)

get_kept : (rows more : List Row) (m n : ℕ) (s : spec.State) → n < length rows → (n ≡ m → ⊥) → slice_get (with_state rows m s ++ more) n ≡ slice_get rows n
get_kept rows more m n s l d =
    let row = there_at rows n l in
    elim (stays rows more m s n row.0 row.1) [ inl h ↦ h ∙ sym row.1 | inr h ↦ absurd (d h.0) ]

-- ---- the rows of a run stand beside one another

abbrev ArePairs : List RowRef → Type 0
ArePairs xs = (n : ℕ) (a b : RowRef) → slice_get xs n ≡ Some a → slice_get xs (suc n) ≡ Some b → a.parent ≡ b.parent → IsBeside a b

abbrev HaveParent : Option ℕ → ℕ → List RowRef → Type 0
HaveParent parent k xs = (n : ℕ) (r : RowRef) → n < k → slice_get xs n ≡ Some r → r.parent ≡ parent

beside_rest : (parent : Option ℕ) (x : RowRef) (xs : List RowRef) (k : ℕ) → ArePairs (x ∷ xs) → HaveParent parent (suc k) (x ∷ xs)
    → AreBeside parent (Some x.q) x.group (take k xs)
beside_rest parent x xs zero pairs all = tt
beside_rest parent x [] (suc k) pairs all = tt
beside_rest parent x (y ∷ ys) (suc k) pairs all =
    let px : x.parent ≡ parent = all 0 x (omega arith) refl in
    let py : y.parent ≡ parent = all 1 y (omega arith) refl in
    let at : IsBeside x y = pairs 0 x y refl refl (px ∙ sym py) in (
      py,
      at,
      beside_rest parent y ys k (λ n a b i j e. pairs (suc n) a b i j e) (λ n r l i. all (suc n) r (omega (arith, l)) i),
    )

beside_first : (parent : Option ℕ) (xs : List RowRef) (k : ℕ) → ArePairs xs → HaveParent parent k xs
    → ((x : RowRef) → slice_get xs 0 ≡ Some x → x.parent ≡ parent → x.group ≡ 0) → AreBeside parent None 0 (take k xs)
beside_first parent xs zero pairs all from = tt
beside_first parent [] (suc k) pairs all from = tt
beside_first parent (x ∷ xs) (suc k) pairs all from =
    let px : x.parent ≡ parent = all 0 x (omega arith) refl in
    (px, from x refl px, beside_rest parent x xs k pairs all)

run_half : (gs : List RowRef) (parent : Option ℕ) (first : ℕ) (qs : List ℕ) → AreRows gs → IsRun gs parent first qs → IsFirstUnder gs first parent
    → AllHalf (map (waiting_row parent) (new_rows_of qs)) (drop first gs)
run_half gs parent first qs h run alone =
    let under : List RowRef = take (length qs) (drop first gs) in
    let beside : AreBeside parent None 0 under = beside_first parent (drop first gs) (length qs)
    (λ n a b i j e. h.beside (first + n) a b (sym (get_drop gs first n (first + n) refl) ∙ i) (sym (get_drop gs first (suc n) (suc (first + n)) (omega arith)) ∙ j) e)
    (λ n r l i. run.all (first + n) r (omega arith) (omega (arith, l)) (sym (get_drop gs first n (first + n) refl) ∙ i))
    (λ x i e. h.first_group first x (sym (get_drop gs first 0 first (omega arith)) ∙ i) (λ m r l k f. alone m r l k (f ∙ e))) in
    grind (arith, common_steps, take-append-drop (length qs) (drop first gs), half_waiting_row parent None 0 0 under (drop (length qs) (drop first gs)) beside)

-- ---- a run and what comes after it

pub run_some : (gs : List RowRef) (parent : Option ℕ) (first : ℕ) (qs : List ℕ) (x : RowRef) → IsRun gs parent first qs → slice_get gs first ≡ Some x → x.parent ≡ parent
    → 0 < length qs
run_some gs parent first qs x run is e = grind arith

run_cut : (gs : List RowRef) (parent : Option ℕ) (first : ℕ) (qs : List ℕ) (x : RowRef) → AreRows gs → IsRun gs parent first qs → slice_get gs first ≡ Some x → x.parent ≡ parent
    → (n : ℕ) (c : RowRef) → n ≡ first + length qs → slice_get gs n ≡ Some c → IsFirstUnder gs n c.parent
run_cut gs parent first qs x h run is px n c e ic m r l ir er = grind arith

-- ---- new rows wait

new_idle : (parent : Option ℕ) (new_rows : List NewRow) (n : ℕ) → n < length new_rows → IsTrue (is_row is_idle (slice_get (map (waiting_row parent) new_rows) n))
new_idle parent [] n l = absurd (omega (arith, l))
new_idle parent (s ∷ new_rows) zero l = refl
new_idle parent (s ∷ new_rows) (suc n) l = new_idle parent new_rows n (omega (arith, l))

new_length : (parent : Option ℕ) (qs : List ℕ) → length (map (waiting_row parent) (new_rows_of qs)) ≡ length qs
new_length parent qs = length-map (new_rows_of qs) (waiting_row parent) ∙ new_rows_count None 0 0 qs

-- ---- the initial rows

initial : (x : RowRef) (gs : List RowRef) → AreRows (x ∷ gs) → x.parent ≡ None
initial x gs h = go x.parent refl
  where
    go : (p : Option ℕ) → x.parent ≡ p → p ≡ None
    go None e = refl
    go (Some m) e = absurd (omega (arith, (h.parent 0 m x refl e).older))

pub standing_first : (gs : List RowRef) (qs : List ℕ) → AreRows gs → IsRun gs None 0 qs → IsStanding (map (waiting_row None) (new_rows_of qs)) gs
standing_first [] qs h run = grind arith
standing_first (x ∷ gs) qs h run =
    let px : x.parent ≡ None = initial x gs h in
    record {
      half = run_half (x ∷ gs) None 0 qs h run (λ m r l. absurd (omega (arith, l)));
      begun = λ l. omega (arith, run_some (x ∷ gs) None 0 qs x run refl px, new_length None qs);
      waits = λ n l none. new_idle None (new_rows_of qs) n (omega (arith, l, new_length None qs, new_rows_count None 0 0 qs));
      cut = λ c is. run_cut (x ∷ gs) None 0 qs x h run refl px (length (map (waiting_row None) (new_rows_of qs))) c (omega (arith, new_length None qs)) is;
    }

-- ---- the next run

pub grown_length : (rows : List Row) (m : ℕ) (s : spec.State) (qs : List ℕ)
    → length (with_state rows m s ++ map (waiting_row (Some m)) (new_rows_of qs)) ≡ length rows + length qs
grown_length rows m s qs = grind (arith, common_steps, length-state, new_length)

pub standing_next : (rows : List Row) (gs : List RowRef) (m : ℕ) (g c : RowRef) (end : End) (qs : List ℕ) → AreRows gs → IsStanding rows gs
    → slice_get gs (length rows) ≡ Some c → c.parent ≡ Some m → slice_get gs m ≡ Some g → g.state ≡ Ended end → IsRun gs (Some m) (length rows) qs
    → IsStanding (with_state rows m (plain_state (Ended end)) ++ map (waiting_row (Some m)) (new_rows_of qs)) gs
standing_next rows gs m g c end qs h s ic pc ig eg run =
    let more : List Row = map (waiting_row (Some m)) (new_rows_of qs) in
    let put : List Row = with_state rows m (plain_state g.state) in
    let put_len : length put ≡ length rows = length-state rows m (plain_state g.state) in
    let more_len : length more ≡ length qs = new_length (Some m) qs in
    let len : length (put ++ more) ≡ length rows + length qs = grown_length rows m (plain_state g.state) qs in
    let some : 0 < length qs = run_some gs (Some m) (length rows) qs c run ic pc in
    let N : ℕ → Type 0 = λ n. AllHalf more (drop n gs) in
    let idle : (n : ℕ) → n < length (put ++ more) → IsFirstUnder gs (length (put ++ more)) (Some n) → IsTrue (is_row is_idle (slice_get (put ++ more) n)) =
    λ n l none. elim (cases_lt n (length rows)) [
      | inl b ↦ subst (λ (o : Option Row). IsTrue (is_row is_idle o))
          (sym (get_kept rows more m n (plain_state g.state) b (λ e. none (length rows) c (omega (arith, len, some)) ic (pc ∙ ap Some (sym e)))))
          (s.waits n b (λ i r k is e. none i r (omega (arith, len, k)) is e))
      | inr b ↦ subst (λ (o : Option Row). IsTrue (is_row is_idle o))
          (sym (get_right put more n (n - length rows) (omega (arith, b, put_len))))
          (new_idle (Some m) (new_rows_of qs) (n - length rows) (omega (arith, b, l, len, new_rows_count None 0 0 qs)))
    ] in
    subst (λ (x : State). IsStanding (with_state rows m (plain_state x) ++ map (waiting_row (Some m)) (new_rows_of qs)) gs) eg (record {
      half = half_append put more gs (half_with rows gs m g s.half ig)
          (subst N (sym put_len) (run_half gs (Some m) (length rows) qs h run (λ i r l is e. s.cut c ic i r l is (e ∙ sym pc))));
      begun = λ l. omega (arith, len, some);
      waits = idle;
      cut = λ d is. run_cut gs (Some m) (length rows) qs c h run ic pc (length (put ++ more)) d len is;
    })

-- ---- a run is read row by row

pub run_more : (gs : List RowRef) (first i : ℕ) (qs : List ℕ) (x : RowRef) → first + length qs ≡ i → qs ≡ map q_of (take (length qs) (drop first gs)) → slice_get gs i ≡ Some x
    → qs ++ x.q ∷ [] ≡ map q_of (take (length (qs ++ x.q ∷ [])) (drop first gs))
run_more gs first i qs x count each is = grind (arith, common_steps, get_drop gs first (length qs) i (sym count), map-append q_of (take (length qs) (drop first gs)) (x ∷ []), length-append, take_one)

pub all_more : (gs : List RowRef) (parent : Option ℕ) (first i : ℕ) (x : RowRef) → ((n : ℕ) (r : RowRef) → first ≤ n → n < i → slice_get gs n ≡ Some r → r.parent ≡ parent)
    → slice_get gs i ≡ Some x → x.parent ≡ parent → (n : ℕ) (r : RowRef) → first ≤ n → n < i + 1 → slice_get gs n ≡ Some r → r.parent ≡ parent
all_more gs parent first i x all ix px n r f l is = grind arith

-- it ends before a row of another parent, or with the last row
pub run_ends : (gs : List RowRef) (parent : Option ℕ) (first i : ℕ) (qs : List ℕ) → first + length qs ≡ i → qs ≡ map q_of (take (length qs) (drop first gs))
    → ((n : ℕ) (r : RowRef) → first ≤ n → n < i → slice_get gs n ≡ Some r → r.parent ≡ parent) → i ≤ length gs
    → ((r : RowRef) → slice_get gs i ≡ Some r → r.parent ≡ parent → ⊥) → IsRun gs parent first qs
run_ends gs parent first i qs count each all few ends = grind arith

pub past_end : (gs : List RowRef) (i : ℕ) (r : RowRef) → length gs ≤ i → slice_get gs i ≡ Some r → ⊥
past_end gs i r l is = let none : None ≡ Some r = sym (slice_get_past gs i l) ∙ is in cc

-- ---- what stands has its rows

pub half_length : (rows : List Row) (gs : List RowRef) → AllHalf rows gs → length rows ≤ length gs
half_length [] gs h = omega arith
half_length (r ∷ rs) [] h = absurd h
half_length (r ∷ rs) (g ∷ gs) h = omega (arith, half_length rs gs h.1)

pub half_at : (rows : List Row) (gs : List RowRef) (n : ℕ) (g : RowRef) → AllHalf rows gs → length rows ≡ length gs → slice_get gs n ≡ Some g → IsHalf (slice_get rows n) g.state
half_at [] [] n g h e is = absurd cc
half_at [] (x ∷ gs) n g h e is = absurd (omega (arith, e))
half_at (r ∷ rs) [] n g h e is = absurd h
half_at (r ∷ rs) (x ∷ gs) zero g h e is = grind arith
half_at (r ∷ rs) (x ∷ gs) (suc n) g h e is = half_at rs gs n g h.1 (omega (arith, e)) is

-- the next run has a parent that waits
pub next_parent : (rows : List Row) (gs : List RowRef) (c : RowRef) (m : ℕ) → AreRows gs → IsStanding rows gs → slice_get gs (length rows) ≡ Some c → c.parent ≡ Some m
    → IsTrue (is_row is_idle (slice_get rows m))
next_parent rows gs c m h s ic pc = grind arith

next_has_parent : (rows : List Row) (gs : List RowRef) (c : RowRef) → AreRows gs → IsStanding rows gs → slice_get gs (length rows) ≡ Some c → c.parent ≡ None → ⊥
next_has_parent rows [] c h s ic e = absurd cc
next_has_parent rows (x ∷ gs) c h s ic e = s.cut c ic 0 x (s.begun (omega arith)) refl (initial x gs h ∙ sym e)

pub next_under : (rows : List Row) (gs : List RowRef) (c : RowRef) → AreRows gs → IsStanding rows gs → slice_get gs (length rows) ≡ Some c → IsSome c.parent
next_under rows gs c h s ic = grind (arith, next_has_parent)

-- ---- the rows come into their states one after another

pub record IsSettled (rules : spec.Rules) (gs : List RowRef) (i : ℕ) (t : Tree) : Type 0 where
  pub rules_kept : t.rules ≡ rules
  pub half : AllHalf t.rows gs
  pub count : length t.rows ≡ length gs
  pub settled : take i t.rows ≡ take i (map given_row gs)

pub settled_next : (rules : spec.Rules) (gs : List RowRef) (i : ℕ) (t new : Tree) (g : RowRef) → AreRows gs → IsSettled rules gs i t → slice_get gs i ≡ Some g
    → new ≡ record t { rows = with_state t.rows g.no (plain_state g.state) } → IsSettled rules gs (i + 1) new
settled_next rules gs i t new g h s is e = grind (arith, common_steps, length-state, given_next, past_end, half_with)

pub all_settled : (rules : spec.Rules) (gs : List RowRef) (i : ℕ) (t : Tree) → IsSettled rules gs i t → length gs ≤ i → t ≡ record { rules = rules; rows = map given_row gs }
all_settled rules gs i t s le = grind (arith, common_steps)
