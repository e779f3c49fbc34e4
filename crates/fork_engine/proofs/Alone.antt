-- No two answers with different class and preference are both the least.
use Rattle.std.proofs.Common.{◌≡◌, ℕ, ◌==◌, ◌⊎◌, inl, inr, Bool, true, false, ◌&&◌, ◌||◌, All, List, [], ◌∷◌, refl, arith, sym, subst}
use Rattle.std.specs.List.{list_any}
use Rattle.std.proofs.lemmas.Bool.Decides.{nat_tests}
use Rattle.fork_model.specs.Table.{Rules}
use Rattle.fork_model.specs.Event.{Event, FinalAnswer, Ring, Answer, Timeout, Fault, TimerC, GiveUp, Cancel}
use Rattle.fork_engine.specs.Plain.{is_answer, IsAnswered, GoesFirst, AreEqual, IsNotBefore, IsBehind, LeastAreEqual, OneAloneIsChosen}
use Rattle.fork_engine.proofs.Plainly.{all_head, all_tail}

-- what holds of each event holds of the answer of row n with this status
of_answer : (P : Event → Type 0) (Q : ℕ → ℕ → Type 0) → ((m : ℕ) (answer : FinalAnswer) → P (Answer m answer) → Q m answer.status)
    → (n status : ℕ) (events : List Event) → All P events → IsAnswered events n status → Q n status
of_answer P Q at n status [] all e = absurd cc
of_answer P Q at n status (Ring m s ∷ events) all e = of_answer P Q at n status events (all_tail P (Ring m s) events all) e
of_answer P Q at n status (Timeout m ∷ events) all e = of_answer P Q at n status events (all_tail P (Timeout m) events all) e
of_answer P Q at n status (Fault m ∷ events) all e = of_answer P Q at n status events (all_tail P (Fault m) events all) e
of_answer P Q at n status (TimerC m ∷ events) all e = of_answer P Q at n status events (all_tail P (TimerC m) events all) e
of_answer P Q at n status (GiveUp m ∷ events) all e = of_answer P Q at n status events (all_tail P (GiveUp m) events all) e
of_answer P Q at n status (Cancel ∷ events) all e = of_answer P Q at n status events (all_tail P Cancel events all) e
of_answer P Q at n status (Answer m answer ∷ events) all e =
    go (m == n) (answer.status == status) refl refl e (λ h. of_answer P Q at n status events (all_tail P (Answer m answer) events all) h)
  where
    here : Q m answer.status
    here = at m answer (all_head P (Answer m answer) events all)

    go : (a b : Bool) → (m == n) ≡ a → (answer.status == status) ≡ b → (a && b || list_any (is_answer (λ other. other == status) n) events) ≡ true
        → (IsAnswered events n status → Q n status) → Q n status
    go true true f g h later =
        let one : m ≡ n = grind (arith, nat_tests) in
        let two : answer.status ≡ status = grind (arith, nat_tests) in
        subst (λ (k : ℕ). Q k status) one (subst (λ (k : ℕ). Q m k) two here)
    go true false f g h later = later h
    go false true f g h later = later h
    go false false f g h later = later h

never : (rules : Rules) (a b : ℕ) → GoesFirst rules a b ⊎ AreEqual rules a b → GoesFirst rules b a → ⊥
never rules a b (inl (inl x)) (inl y) = omega arith
never rules a b (inl (inl x)) (inr y) = let e = y.0 in omega (arith, e)
never rules a b (inl (inr x)) (inl y) = let e = x.0 in omega (arith, e)
never rules a b (inl (inr x)) (inr y) = let p = x.1 in let q = y.1 in omega (arith, p, q)
never rules a b (inr x) (inl y) = let e = x.0 in omega (arith, e)
never rules a b (inr x) (inr y) = let e = x.1 in let q = y.1 in omega (arith, e, q)

both : (rules : Rules) (a b : ℕ) → GoesFirst rules a b ⊎ AreEqual rules a b → GoesFirst rules b a ⊎ AreEqual rules b a → AreEqual rules a b
both rules a b (inr x) y = x
both rules a b (inl x) (inr y) = (sym y.0, sym y.1)
both rules a b (inl x) (inl y) = absurd (never rules a b (inl x) y)

pub least_are_equal : LeastAreEqual
least_are_equal rules events m n a b one two =
    both rules a b
    (of_answer (IsNotBefore rules a) (λ k s. GoesFirst rules a s ⊎ AreEqual rules a s) (λ k answer h. h) n b events one.least two.answered)
    (of_answer (IsNotBefore rules b) (λ k s. GoesFirst rules b s ⊎ AreEqual rules b s) (λ k answer h. h) m a events two.least one.answered)

pub one_alone_is_chosen : OneAloneIsChosen
one_alone_is_chosen rules events m n a b least answered behind =
    go (of_answer (IsBehind rules n b) (λ k s. (k ≡ n) ⊎ GoesFirst rules b s) (λ k answer h. h) m a events behind least.answered)
  where
    go : (m ≡ n) ⊎ GoesFirst rules b a → m ≡ n
    go (inl e) = e
    go (inr h) = absurd (never rules a b (of_answer (IsNotBefore rules a) (λ k s. GoesFirst rules a s ⊎ AreEqual rules a s) (λ k answer x. x) n b events least.least answered) h)
