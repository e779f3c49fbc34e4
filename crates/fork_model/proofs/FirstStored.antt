-- Each table has a choice, and this finds it.
use Rattle.fork_model.proofs.Common.{◌≡◌, ℕ, zero, suc, Bool, true, false, cond, List, [], ◌∷◌, Option, Some, None, refl, arith, nat_lt, ◌==◌, ◌&&◌, ◌||◌, if◌then◌else◌, Rules, Row, Rank, Score, RanksBefore, Choice, Best, Only503, NoAnswer408}
use Rattle.fork_model.proofs.Common.{HasScore, IsFirst, NoneStored, IsChoice, common_steps, rules}
use Rattle.fork_model.specs.Rank.{rank_of, Before}
use Rattle.fork_model.proofs.laws.OrderLemmas.{Before-trans, Before-between, Before-same}
use Rattle.fork_model.proofs.laws.Choosing.{row_score, none_stored_empty}

abbrev pub ranks_before : Rank → Rank → Bool
ranks_before a b = nat_lt a.class b.class || (a.class == b.class && (nat_lt a.part b.part || (a.part == b.part && nat_lt a.arrival b.arrival)))

ranks_before_is : (a b : Rank) → ranks_before a b ≡ true → RanksBefore a b
ranks_before_is a b e = grind arith

ranks_before_not : (a b : Rank) → ranks_before a b ≡ false → RanksBefore a b → ⊥
ranks_before_not a b e h = grind arith

abbrev pub is_before : Rules → Score → Score → Bool
is_before rules a b = ranks_before (rank_of rules a) (rank_of rules b)

is_before_is : (rules : Rules) (a b : Score) → is_before rules a b ≡ true → Before rules a b
unfolding Before
is_before_is rules a b e = ranks_before_is (rank_of rules a) (rank_of rules b) e

is_before_not : (rules : Rules) (a b : Score) → is_before rules a b ≡ false → Before rules a b → ⊥
unfolding Before
is_before_not rules a b e h = ranks_before_not (rank_of rules a) (rank_of rules b) e h

-- of a row and the first of those after it
abbrev pub first_with : Rules → Option Score → Option (ℕ × Score) → Option (ℕ × Score)
first_with rules None None = None
first_with rules None (Some found) = Some (suc found.0, found.1)
first_with rules (Some score) None = Some (0, score)
first_with rules (Some score) (Some found) = if is_before rules found.1 score then Some (suc found.0, found.1) else Some (0, score)

abbrev pub first_of : Rules → List Row → Option (ℕ × Score)
first_of rules [] = None
first_of rules (row ∷ rows) = first_with rules (row_score row) (first_of rules rows)

abbrev pub IsFound : Rules → List Row → Option (ℕ × Score) → Type 0
IsFound rules rows None = NoneStored rows
IsFound rules rows (Some found) = IsFirst rules rows found.0 found.1

found_with : (rules : Rules) (row : Row) (rows : List Row) (here : Option Score) (found : Option (ℕ × Score)) → row_score row ≡ here → IsFound rules rows found
    → IsFound rules (row ∷ rows) (first_with rules here found)
found_with rules row rows None None is none = grind (arith, common_steps)
found_with rules row rows None (Some found) is first = grind (arith, common_steps, found)
found_with rules row rows (Some score) None is none = record { stored = is; first = go }
  where
    go : (m : ℕ) (other : Score) → HasScore (row ∷ rows) m other → Before rules other score → ⊥
    go zero other h before = Before-same rules other score (cc) before
    go (suc m) other h before = none m other h
found_with rules row rows (Some score) (Some found) is first = pick (is_before rules found.1 score) refl
  where
    later : Before rules found.1 score → (m : ℕ) (other : Score) → HasScore (row ∷ rows) m other → Before rules other found.1 → ⊥
    later goes zero other h before =
        let same : other ≡ score = cc in
        Before-same rules other score same (Before-trans rules other found.1 score before goes)
    later goes (suc m) other h before = first.first m other h before

    earlier : (Before rules found.1 score → ⊥) → (m : ℕ) (other : Score) → HasScore (row ∷ rows) m other → Before rules other score → ⊥
    earlier not zero other h before = Before-same rules other score (cc) before
    earlier not (suc m) other h before = first.first m other h (Before-between rules other score found.1 before not)

    pick : (b : Bool) → is_before rules found.1 score ≡ b → IsFound rules (row ∷ rows) (cond b (Some (suc found.0, found.1)) (Some (0, score)))
    pick true e = record { stored = first.stored; first = later (is_before_is rules found.1 score e) }
    pick false e = record { stored = is; first = earlier (is_before_not rules found.1 score e) }

first_of_is : (rules : Rules) (rows : List Row) → IsFound rules rows (first_of rules rows)
first_of_is rules [] = none_stored_empty
first_of_is rules (row ∷ rows) = found_with rules row rows (row_score row) (first_of rules rows) refl (first_of_is rules rows)

abbrev pub choice_by : Option (ℕ × Score) → Choice
choice_by None = NoAnswer408
choice_by (Some found) = if found.1.status == 503 then Only503 found.0 else Best found.0

choice_by_is : (rules : Rules) (rows : List Row) (found : Option (ℕ × Score)) → IsFound rules rows found → IsChoice rules rows (choice_by found)
choice_by_is rules rows found none = grind (arith, common_steps, found)

abbrev pub choice_of : Rules → List Row → Choice
choice_of rules rows = choice_by (first_of rules rows)

pub choice_of_is : (rules : Rules) (rows : List Row) → IsChoice rules rows (choice_of rules rows)
choice_of_is rules rows = choice_by_is rules rows (first_of rules rows) (first_of_is rules rows)
