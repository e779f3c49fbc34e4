-- The opening table of a list with a target has a branch that is tried.
use Rattle.fork_model.proofs.Common.{◌≡◌, ◌≢◌, ℕ, zero, suc, ◌<◌, Bool, true, false, List, [], ◌∷◌, ◌++◌, length, map, filter, Option, Some, refl, ap, arith, ◌∙◌, sym, subst, cond, inl, inr, ◌⊎◌, slice_get, ◌||◌, nat_lt, ◌==◌, option_map, list_any}
use Rattle.fork_model.proofs.Common.{cons_option, Kind, Rules, Row, is_open, is_finished, numbers_below, with_q, falling, is_value, places_of, in_group, numbered_from, Target, first_row, opening_rows, opening, filter-append, common_steps, rules}
use Rattle.std.specs.List.{filter_map}
use Rattle.fork_model.proofs.OneFinalLemmas.{open_unfinished}
use Rattle.fork_model.proofs.laws.WaitingLemmas.{or_right}
use Rattle.std.proofs.lemmas.Option.{slice_get_within}
use Rattle.std.proofs.lemmas.List.Folds.{list_any-append}

-- the greatest value stands first among those that occur
pub record Greatest (qs : List ℕ) (falls : List ℕ) : Type 0 where
  q : ℕ
  rest : List ℕ
  first : falls ≡ q ∷ rest
  place : ℕ
  stands : slice_get qs place ≡ Some q

greatest_with : (q : ℕ) (qs falls : List ℕ) → Greatest qs falls → Greatest (q ∷ qs) (with_q q falls)
greatest_with q qs falls g =
    let P : List ℕ → Type 0 = λ falls. Greatest (q ∷ qs) (with_q q falls) in
    subst P (sym g.first) (go (q == g.q) (nat_lt g.q q))
  where
    go : (same below : Bool) → Greatest (q ∷ qs) (cond same (g.q ∷ g.rest) (cond below (q ∷ g.q ∷ g.rest) (g.q ∷ with_q q g.rest)))
    go true below = record { q = g.q; rest = g.rest; first = refl; place = suc g.place; stands = g.stands }
    go false true = record { q = q; rest = g.q ∷ g.rest; first = refl; place = zero; stands = refl }
    go false false = record { q = g.q; rest = with_q q g.rest; first = refl; place = suc g.place; stands = g.stands }

greatest : (q : ℕ) (qs : List ℕ) → Greatest (q ∷ qs) (falling (q ∷ qs))
greatest q [] = record { q = q; rest = []; first = refl; place = zero; stands = refl }
greatest q (other ∷ qs) = greatest_with q (other ∷ qs) (falling (other ∷ qs)) (greatest other qs)

-- a number is among those of a list
abbrev Among : ℕ → List ℕ → Type 0
Among n numbers = list_any (λ number. number == n) numbers ≡ true

or_first : (a b : Bool) → a ≡ true → (a || b) ≡ true
or_first a b e = grind (arith, common_steps)

same_number : (n : ℕ) → (n == n) ≡ true
same_number n = grind arith

kept_among : (test : ℕ → Bool) (n : ℕ) (below : ℕ) → n < below → test n ≡ true → Among n (filter test (numbers_below below))
kept_among test n zero lt is = absurd (omega arith)
kept_among test n (suc below) lt is =
    ap (list_any (λ number. number == n)) (filter-append test (numbers_below below) (below ∷ []))
    ∙ list_any-append (λ number. number == n) (filter test (numbers_below below)) (filter test (below ∷ []))
    ∙ elim (split n below lt) [
      | inl less ↦ or_first (list_any (λ number. number == n) (filter test (numbers_below below))) _ (kept_among test n below less is)
      | inr same ↦ or_right (list_any (λ number. number == n) (filter test (numbers_below below))) _ (last same)
    ]
  where
    split : (n below : ℕ) → n < suc below → (n < below) ⊎ (n ≡ below)
    split n below lt = grind arith

    last : n ≡ below → Among n (filter test (below ∷ []))
    last same =
        let P : ℕ → Type 0 = λ m. Among n (filter test (m ∷ [])) in
        let here : Among n (filter test (n ∷ [])) = ap (λ b. list_any (λ number. number == n) (cond b (n ∷ []) [])) is ∙ or_first (n == n) false (same_number n) in
        subst P same here

-- the rows of the first group are tried
opening_row : List Target → ℕ × ℕ → Option Row
opening_row targets p = option_map (first_row p.0 p.1) (slice_get targets p.1)

cons_tried : (found : Option Row) (rows : List Row) → list_any (λ row. is_open row.state) rows ≡ true
    → list_any (λ row. is_open row.state) (cons_option found rows) ≡ true
cons_tried found rows e = grind (arith, common_steps, or_right)

first_tried : (targets : List Target) (place : ℕ) (target : Target) (rows : List Row) → slice_get targets place ≡ Some target
    → list_any (λ row. is_open row.state) (cons_option (opening_row targets (0, place)) rows) ≡ true
unfolding opening_row
first_tried targets place target rows there = grind (arith, common_steps)

group_tried : (targets : List Target) (places : List ℕ) (more : List (ℕ × ℕ)) (n : ℕ) (target : Target) → Among n places → slice_get targets n ≡ Some target
    → list_any (λ row. is_open row.state) (filter_map (opening_row targets) (in_group 0 places ++ more)) ≡ true
group_tried targets [] more n target among there = absurd cc
group_tried targets (place ∷ places) more n target among there = go (place == n) refl among (λ rest. group_tried targets places more n target rest there)
  where
    rows : List Row
    rows = filter_map (opening_row targets) (in_group 0 places ++ more)

    go : (same : Bool) → (place == n) ≡ same → (same || list_any (λ number. number == n) places) ≡ true
        → (Among n places → list_any (λ row. is_open row.state) rows ≡ true)
        → list_any (λ row. is_open row.state) (cons_option (opening_row targets (0, place)) rows) ≡ true
    go false is h later = cons_tried (opening_row targets (0, place)) rows (later h)
    go true is h later =
        let same : n ≡ place = sym (equal place n is) in
        let P : ℕ → Type 0 = λ p. list_any (λ row. is_open row.state) (cons_option (opening_row targets (0, p)) rows) ≡ true in
        subst P same (first_tried targets n target rows there)
      where
        equal : (a b : ℕ) → (a == b) ≡ true → a ≡ b
        equal a b e = grind arith

target_at : (targets : List Target) (place q : ℕ) → slice_get (map (λ target. target.q) targets) place ≡ Some q
    → (target : Target) × (slice_get targets place ≡ Some target)
target_at [] place q e = absurd cc
target_at (target ∷ targets) zero q e = (target, refl)
target_at (target ∷ targets) (suc place) q e = target_at targets place q e

is_value_at : (q : ℕ) (found : Option ℕ) → found ≡ Some q → is_value q found ≡ true
is_value_at q found e = ap (is_value q) e ∙ same_number q

opening_tried : (targets : List Target) → Greatest (map (λ target. target.q) targets) (falling (map (λ target. target.q) targets))
    → list_any (λ row. is_open row.state) (opening_rows targets) ≡ true
unfolding opening_row
opening_tried targets g = grind (arith, common_steps, target_at, kept_among, slice_get_within, is_value_at, opening_row, group_tried)

pub opening_is_unfinished : (kind : Kind) (rules : Rules) (targets : List Target) → targets ≢ [] → is_finished (opening kind rules targets).rows ≡ false
opening_is_unfinished kind rules [] some = absurd (some refl)
opening_is_unfinished kind rules (target ∷ targets) some = search (rules, open_unfinished, opening_tried, greatest)
