-- What sets the answer that goes up apart from all others that are stored.
use Rattle.std.proofs.Common.{◌≡◌, ◌≢◌, ◌∙◌, ℕ, zero, suc, ◌+◌, ◌<◌, ◌≤◌, inl, inr, ⊎_elim, Bool, true, cond, eqb, List, [], ◌∷◌, Option, None, Some, ap, arith, length, refl, sym, eq-eqb}
use Rattle.std.proofs.lemmas.Bool.{and_from, cases_lt}
use Rattle.std.proofs.lemmas.List.Sums.{count_by-le-length, sum_by-cons}
use Rattle.std.specs.Prelude.{slice_get}
use Rattle.std.specs.List.{cons_option, count_by, filter_map}
use Rattle.std.specs.Option.{option_and_then, option_map}
use Rattle.std.proofs.lemmas.Option.{none-some, same_Some}
use Rattle.fork_model.specs.Table.{Row, Rules, StoredAnswer, stored_of}
use Rattle.fork_model.specs.Rank.{Before, Score, class_of, part_of, rank_of}
use Rattle.fork_model.specs.Choice.{HasScore, IsFirst, score_of, stored_at}
use Rattle.call_journal.specs.Why.{IsOther, ReasonsAreRight, is_alike, ranked_alike, same_class, stored_status, stored_statuses}

-- ---- what is stored twice counts twice

more_counted : (p : ℕ → Bool) (o : Option ℕ) (ys : List ℕ) → count_by p ys ≤ count_by p (cons_option o ys)
more_counted p None ys = omega arith
more_counted p (Some y) ys = omega (arith, sum_by-cons (λ (x : ℕ). cond (p x) 1 0) y ys)

here_counted : (p : ℕ → Bool) (o : Option ℕ) (y : ℕ) (ys : List ℕ) → o ≡ Some y → p y ≡ true → count_by p (cons_option o ys) ≡ 1 + count_by p ys
here_counted p None y ys is passes = absurd (none-some y is)
here_counted p (Some z) y ys is passes =
    let same : p z ≡ true = ap p (same_Some z y is) ∙ passes in
    sum_by-cons (λ (x : ℕ). cond (p x) 1 0) z ys ∙ ap (λ (v : Bool). cond v 1 0 + count_by p ys) same

counted : {X : Type 0} (p : ℕ → Bool) (f : X → Option ℕ) (xs : List X) (m y : ℕ) → option_and_then f (slice_get xs m) ≡ Some y → p y ≡ true
    → 1 ≤ count_by p (filter_map f xs)
counted p f [] m y is passes = absurd (none-some y is)
counted p f (x ∷ xs) zero y is passes = omega (arith, here_counted p (f x) y (filter_map f xs) is passes)
counted p f (x ∷ xs) (suc m) y is passes = omega (arith, counted p f xs m y is passes, more_counted p (f x) (filter_map f xs))

counted_in_order : {X : Type 0} (p : ℕ → Bool) (f : X → Option ℕ) (xs : List X) (n m y z : ℕ) → n < m
    → option_and_then f (slice_get xs n) ≡ Some y → p y ≡ true → option_and_then f (slice_get xs m) ≡ Some z → p z ≡ true
    → 2 ≤ count_by p (filter_map f xs)
counted_in_order p f [] n m y z before is passes also_is also = absurd (none-some y is)
counted_in_order p f (x ∷ xs) n zero y z before is passes also_is also = absurd (omega arith)
counted_in_order p f (x ∷ xs) zero (suc m) y z before is passes also_is also =
    omega (arith, here_counted p (f x) y (filter_map f xs) is passes, counted p f xs m z also_is also)
counted_in_order p f (x ∷ xs) (suc n) (suc m) y z before is passes also_is also =
    omega (arith, counted_in_order p f xs n m y z (omega arith) is passes also_is also, more_counted p (f x) (filter_map f xs))

counted_twice : {X : Type 0} (p : ℕ → Bool) (f : X → Option ℕ) (xs : List X) (n m y z : ℕ) → m ≢ n
    → option_and_then f (slice_get xs n) ≡ Some y → p y ≡ true → option_and_then f (slice_get xs m) ≡ Some z → p z ≡ true
    → 2 ≤ count_by p (filter_map f xs)
counted_twice p f xs n m y z apart is passes also_is also = ⊎_elim
    (λ (before : n < m). counted_in_order p f xs n m y z before is passes also_is also)
    (λ (behind : m ≤ n). counted_in_order p f xs m n z y (let strictly : m < n = omega arith in strictly) also_is also is passes)
    (cases_lt n m)

-- ---- of stored answers

status_in : (o : Option StoredAnswer) (score : Score) → option_map score_of o ≡ Some score → option_map (λ (answer : StoredAnswer). answer.status) o ≡ Some score.status
status_in None score is = ap (option_map (λ (s : Score). s.status)) is
status_in (Some answer) score is = ap (option_map (λ (s : Score). s.status)) is

status_of : (row : Option Row) (score : Score) → option_map score_of (stored_at row) ≡ Some score → option_and_then stored_status row ≡ Some score.status
status_of None score is = absurd (none-some score is)
status_of (Some row) score is = status_in (stored_of row.state) score is

twice : (p : ℕ → Bool) (rows : List Row) (n m : ℕ) (score other : Score) → HasScore rows n score → m ≢ n → HasScore rows m other
    → p score.status ≡ true → p other.status ≡ true → 2 ≤ count_by p (stored_statuses rows)
twice p rows n m score other mine apart theirs passes also =
    counted_twice p stored_status rows n m score.status other.status apart (status_of (slice_get rows n) score mine) passes (status_of (slice_get rows m) other theirs) also

-- ---- which ranks first

not_below : (x y : ℕ) → (x < y → ⊥) → y ≤ x
not_below x y never = ⊎_elim (λ (below : x < y). absurd (never below)) (λ (above : y ≤ x). above) (cases_lt x y)

no_lower_class : (rules : Rules) (a b : Score) → (Before rules a b → ⊥) → class_of b.status ≤ class_of a.status
unfolding Before rank_of
no_lower_class rules a b never = not_below (class_of a.status) (class_of b.status) (λ lower. never (inl lower))

no_lower_part : (rules : Rules) (a b : Score) → (Before rules a b → ⊥) → class_of a.status ≡ class_of b.status → part_of rules b.status ≤ part_of rules a.status
unfolding Before rank_of
no_lower_part rules a b never same = not_below (part_of rules a.status) (part_of rules b.status) (λ lower. never (inr (same, inl lower)))

no_earlier : (rules : Rules) (a b : Score) → (Before rules a b → ⊥) → class_of a.status ≡ class_of b.status → part_of rules a.status ≡ part_of rules b.status
    → b.arrival ≤ a.arrival
unfolding Before rank_of
no_earlier rules a b never same alike = not_below a.arrival b.arrival (λ earlier. never (inr (same, inr (alike, earlier))))

-- ---- the reasons

alone : (rows : List Row) (n m : ℕ) (score other : Score) → HasScore rows n score → length (stored_statuses rows) ≤ 1 → IsOther rows n m other → ⊥
alone rows n m score other mine few theirs =
    let two : 2 ≤ count_by (λ (status : ℕ). true) (stored_statuses rows) = twice (λ (status : ℕ). true) rows n m score other mine theirs.0 theirs.1 refl refl in
    omega (arith, count_by-le-length (λ (status : ℕ). true) (stored_statuses rows))

of_class : (rows : List Row) (n m : ℕ) (score other : Score) → HasScore rows n score → same_class (stored_statuses rows) score.status ≤ 1 → IsOther rows n m other
    → class_of other.status ≡ class_of score.status → ⊥
of_class rows n m score other mine few theirs same =
    let p : ℕ → Bool = λ status. eqb (class_of status) (class_of score.status) in
    let two : 2 ≤ same_class (stored_statuses rows) score.status =
    twice p rows n m score other mine theirs.0 theirs.1 (eq-eqb (class_of score.status) (class_of score.status) refl) (eq-eqb (class_of other.status) (class_of score.status) same) in
    omega arith

of_part : (rules : Rules) (rows : List Row) (n m : ℕ) (score other : Score) → HasScore rows n score → ranked_alike rules (stored_statuses rows) score.status ≤ 1
    → IsOther rows n m other → class_of other.status ≡ class_of score.status → part_of rules other.status ≡ part_of rules score.status → ⊥
of_part rules rows n m score other mine few theirs same alike =
    let p : ℕ → Bool = λ status. is_alike rules status score.status in
    let my_class : eqb (class_of score.status) (class_of score.status) ≡ true = eq-eqb (class_of score.status) (class_of score.status) refl in
    let my_part : eqb (part_of rules score.status) (part_of rules score.status) ≡ true = eq-eqb (part_of rules score.status) (part_of rules score.status) refl in
    let two : 2 ≤ ranked_alike rules (stored_statuses rows) score.status =
    twice p rows n m score other mine theirs.0 theirs.1
    (and_from (eqb (class_of score.status) (class_of score.status)) (eqb (part_of rules score.status) (part_of rules score.status)) my_class my_part)
    (and_from (eqb (class_of other.status) (class_of score.status)) (eqb (part_of rules other.status) (part_of rules score.status))
    (eq-eqb (class_of other.status) (class_of score.status) same) (eq-eqb (part_of rules other.status) (part_of rules score.status) alike)) in
    omega arith

strictly : (x y : ℕ) → x ≤ y → (y ≡ x → ⊥) → x < y
strictly x y le apart = ⊎_elim (λ (less : x < y). less) (λ (ge : y ≤ x). absurd (apart (omega arith))) (cases_lt x y)

by_part : (rules : Rules) (rows : List Row) (n m : ℕ) (score other : Score) → IsFirst rules rows n score → ranked_alike rules (stored_statuses rows) score.status ≤ 1
    → IsOther rows n m other → class_of score.status ≡ class_of other.status → part_of rules score.status < part_of rules other.status
by_part rules rows n m score other first few theirs same = strictly (part_of rules score.status) (part_of rules other.status)
    (no_lower_part rules other score (first.first m other theirs.1) (sym same))
    (λ alike. of_part rules rows n m score other first.stored few theirs (sym same) alike)

pub right : (rules : Rules) (rows : List Row) (n : ℕ) (score : Score) → IsFirst rules rows n score → ReasonsAreRight rules rows n score
right rules rows n score first = record {
  alone = λ few m other theirs. alone rows n m score other first.stored few theirs;
  by_class = λ few m other theirs. strictly (class_of score.status) (class_of other.status) (no_lower_class rules other score (first.first m other theirs.1))
      (λ same. of_class rows n m score other first.stored few theirs same);
  by_part = λ few m other theirs same. by_part rules rows n m score other first few theirs same;
  by_arrival = λ m other theirs same alike. no_earlier rules other score (first.first m other theirs.1) (sym same) (sym alike);
}
