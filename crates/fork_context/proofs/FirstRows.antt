-- The row that is first, as the choice names it.
use Rattle.fork_context.proofs.Common.{◌≡◌, ◌≢◌, eqb-true, ℕ, true, refl, ap, arith, ◌∙◌, sym, subst, inl, inr, ◌⊎◌, nat_eq, rules, Option, Some, None, Table, Core, Choice, IsChoice, one_choice, IsSound}
use Rattle.std.proofs.Common.{IsTrue}
use Rattle.fork_model.specs.Choice.{Best, Only503, NoAnswer408}
use Rattle.fork_model.specs.Chosen.{HasFirst}

-- the row whose answer is chosen, a 503 included
abbrev pub row_of : Choice → Option ℕ
row_of (Best n) = Some n
row_of (Only503 n) = Some n
row_of NoAnswer408 = None

same_or : (a b : ℕ) → (a ≡ b) ⊎ (a ≢ b)
same_or a b = grind arith

-- a row that is first is the choice
first_choice : (t : Table) (n : ℕ) → HasFirst t n → (choice : Choice) × IsChoice t.rules t.rows choice × (row_of choice ≡ Some n)
first_choice t n (score, first) =
    elim (same_or score.status 503) [
      | inl is ↦ (Only503 n, (score, first, is), refl)
      | inr differs ↦ (Best n, (score, first, differs), refl)
    ]

choice_first : (t : Table) (n : ℕ) (choice : Choice) → IsChoice t.rules t.rows choice → row_of choice ≡ Some n → HasFirst t n
choice_first t n choice is e = grind arith

some_eq : (m n : ℕ) → Some m ≡ Some n → m ≡ n
some_eq m n e = cc

eq_refl : (n : ℕ) → nat_eq n n ≡ true
eq_refl n = search rules

-- in a context: the row of its choice is first, and no other is
pub first_row : (inside core : Core) → inside ≡ core → IsSound inside.table inside.taken → (choice : Choice)
    → IsChoice inside.table.rules inside.table.rows choice → (m n : ℕ) → row_of choice ≡ Some m
    → (IsTrue (nat_eq m n) → HasFirst core.table n) × (HasFirst core.table n → IsTrue (nat_eq m n))
first_row inside core view sound choice is m n row =
    subst (λ (x : Core). (IsTrue (nat_eq m n) → HasFirst x.table n) × (HasFirst x.table n → IsTrue (nat_eq m n))) view (there, only)
  where
    there : IsTrue (nat_eq m n) → HasFirst inside.table n
    there e = choice_first inside.table n choice is (row ∙ ap Some (eqb-true m n e))

    only : HasFirst inside.table n → IsTrue (nat_eq m n)
    only first =
        let other = first_choice inside.table n first in
        let same : other.0 ≡ choice = one_choice inside.table.rules inside.table.rows inside.taken sound.apart other.0 choice other.1 is in
        let eq : m ≡ n = some_eq m n (sym row ∙ ap row_of (sym same) ∙ other.2) in
        subst (λ k. IsTrue (nat_eq m k)) eq (eq_refl m)
