-- The numbers that pass a test, where they follow each other.
use Rattle.fork_context.proofs.Common.{◌≡◌, ℕ, zero, suc, ◌+◌, ◌<◌, ◌≤◌, Bool, true, false, List, [], ◌∷◌, ◌++◌, length, refl, ap, arith, ◌∙◌, sym, cond, length-append, add-one, filter, append-nil, filter-append, numbers_below, numbers_from}
use Rattle.fork_context.proofs.Common.{true≢false, false_from_ne_true, common_steps}

pub one_more : (p : ℕ → Bool) (n : ℕ) (b : Bool) → p n ≡ b → filter p (numbers_below (suc n)) ≡ filter p (numbers_below n) ++ cond b (n ∷ []) []
one_more p n b e = filter-append p (numbers_below n) (n ∷ []) ∙ ap (λ b. filter p (numbers_below n) ++ cond b (n ∷ []) []) e

pub filter_none : (p : ℕ → Bool) (len : ℕ) → ((k : ℕ) → k < len → p k ≡ false) → filter p (numbers_below len) ≡ []
filter_none p zero h = refl
filter_none p (suc len) h =
    one_more p len false (h len (omega arith)) ∙ append-nil _ ∙ filter_none p len (λ k lt. h k (omega arith))

pub filter_same : (p q : ℕ → Bool) (len : ℕ) → ((k : ℕ) → k < len → p k ≡ q k) → filter p (numbers_below len) ≡ filter q (numbers_below len)
filter_same p q zero h = refl
filter_same p q (suc len) h =
    one_more p len (q len) (h len (omega arith))
    ∙ ap (λ (ns : List ℕ). ns ++ cond (q len) (len ∷ []) []) (filter_same p q len (λ k lt. h k (omega arith)))
    ∙ sym (one_more q len (q len) refl)

pub filter_range : (p : ℕ → Bool) (first count len : ℕ) → first + count ≤ len
    → ((k : ℕ) → first ≤ k → k < first + count → p k ≡ true)
    → ((k : ℕ) → k < len → p k ≡ true → (first ≤ k) × (k < first + count))
    → filter p (numbers_below len) ≡ numbers_from first count
filter_range p first zero len fits all only = grind (arith, common_steps, filter_none)
filter_range p first (suc count) zero fits all only = absurd (omega arith)
filter_range p first (suc count) (suc len) fits all only =
    go (p len) refl
    (λ c fits all only. filter_range p first c len fits all only)
  where
    go : (b : Bool) → p len ≡ b
        → ((c : ℕ) → first + c ≤ len → ((k : ℕ) → first ≤ k → k < first + c → p k ≡ true)
        → ((k : ℕ) → k < len → p k ≡ true → (first ≤ k) × (k < first + c)) → filter p (numbers_below len) ≡ numbers_from first c)
        → filter p (numbers_below (suc len)) ≡ numbers_from first (suc count)
    go true e rest =
        let at = only len (omega arith) e in
        let lo : first ≤ len = at.0 in
        let hi : len < first + suc count = at.1 in
        let last : first + count ≡ len = omega arith in
        one_more p len true e
        ∙ ap (λ (ns : List ℕ). ns ++ len ∷ [])
        (rest count (omega arith) (λ k l h. all k l (omega arith))
        (λ k lt is. let in_it = only k (omega arith) is in let l : first ≤ k = in_it.0 in (l, omega arith)))
        ∙ ap (λ (n : ℕ). numbers_from first count ++ n ∷ []) (sym last)
    go false e rest =
        let below : first + suc count ≤ len = before (p len) e (λ l h. all len l h) in
        one_more p len false e ∙ append-nil _
        ∙ rest (suc count) below all (λ k lt is. only k (omega arith) is)
      where
        before : (b : Bool) → b ≡ false → (first ≤ len → len < first + suc count → b ≡ true) → first + suc count ≤ len
        before b e h = grind arith

-- one number at most
pub filter_one : (p : ℕ → Bool) (n len : ℕ) → n < len → ((k : ℕ) → k < len → p k ≡ true → k ≡ n) → filter p (numbers_below len) ≡ cond (p n) (n ∷ []) []
filter_one p n len lt only = go (p n) refl
  where
    go : (b : Bool) → p n ≡ b → filter p (numbers_below len) ≡ cond b (n ∷ []) []
    go true e =
        filter_range p n 1 len (omega arith) (λ k lo hi. let same : k ≡ n = omega arith in ap p same ∙ e)
        (λ k lt is. let same : k ≡ n = only k lt is in (omega arith, omega arith)) ∙ ap (λ (k : ℕ). k ∷ []) (omega arith)
    go false e = filter_none p len (λ k lt. false_from_ne_true (p k) (λ is. true≢false (sym is ∙ ap p (only k lt is) ∙ e)))

pub length_numbers_from : (first count : ℕ) → length (numbers_from first count) ≡ count
length_numbers_from first zero = refl
length_numbers_from first (suc count) = omega (arith, length_numbers_from first count, length-append (numbers_from first count) ((first + count) ∷ []))

pub numbers_from_more : (first count : ℕ) → numbers_from first (count + 1) ≡ numbers_from first count ++ (first + count) ∷ []
numbers_from_more first count = ap (numbers_from first) (add-one count)

pub length_passing : (p : ℕ → Bool) (n : ℕ) → length (filter p (numbers_below n)) ≤ n
length_passing p zero = omega arith
length_passing p (suc n) = grind (arith, common_steps, one_more, length-append, length_passing p n)
