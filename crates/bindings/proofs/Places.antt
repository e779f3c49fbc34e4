-- The first place at which a test passes.
use Rattle.std.proofs.Common.{◌≡◌, ◌≤◌, ◌<◌, ℕ, suc, ◌+◌, Bool, true, false, cond, List, [], ◌∷◌, ◌++◌, length, Some, None, refl, sym, ap, ◌∙◌, arith}
use Rattle.std.specs.Prelude.{position, slice_set, not, nat_lt}
use Rattle.std.specs.List.{position_or_len, remove}
use Rattle.std.proofs.lemmas.Bool.Decides.{nat_tests}
use Rattle.bindings.specs.Bindings.{in_place, without_first}

placed : (n m i : ℕ) → cond (nat_lt n m) (Some n) None ≡ Some i → (n ≡ i) × (n < m)
placed n m i e = (grind (arith, nat_tests, e), grind (arith, nat_tests, e))

unplaced : (n m : ℕ) → cond (nat_lt n m) (Some n) None ≡ None → m ≤ n
unplaced n m e = grind (arith, nat_tests, e)

one_more : (n : ℕ) → 1 + n ≡ suc n
one_more n = omega arith

module _ {X : Type 0} where
  without_step : (x : X) (xs w : List X) (n : ℕ) → (n < length xs → w ≡ remove xs n) → (v : Bool) → cond (not v) (1 + n) 0 < suc (length xs)
      → cond v xs (x ∷ w) ≡ remove (x ∷ xs) (cond (not v) (1 + n) 0)
  without_step x xs w n later true h = refl
  without_step x xs w n later false h = ap (λ (l : List X). x ∷ l) (later (omega arith)) ∙ sym (ap (remove (x ∷ xs)) (one_more n))

  without_at : (p : X → Bool) (xs : List X) → position_or_len p xs < length xs → without_first p xs ≡ remove xs (position_or_len p xs)
  without_at p [] h = absurd (omega arith)
  without_at p (x ∷ xs) h = without_step x xs (without_first p xs) (position_or_len p xs) (without_at p xs) (p x) h

  none_step : (x : X) (xs w : List X) (n : ℕ) → (length xs ≤ n → w ≡ xs) → (v : Bool) → suc (length xs) ≤ cond (not v) (1 + n) 0 → cond v xs (x ∷ w) ≡ x ∷ xs
  none_step x xs w n later true h = absurd (omega arith)
  none_step x xs w n later false h = ap (λ (l : List X). x ∷ l) (later (omega arith))

  without_past : (p : X → Bool) (xs : List X) → length xs ≤ position_or_len p xs → without_first p xs ≡ xs
  without_past p [] h = refl
  without_past p (x ∷ xs) h = none_step x xs (without_first p xs) (position_or_len p xs) (without_past p xs) (p x) h

  put_step : (new x : X) (xs w : List X) (n : ℕ) → (n < length xs → w ≡ slice_set xs n new) → (v : Bool) → cond (not v) (1 + n) 0 < suc (length xs)
      → cond v (new ∷ xs) (x ∷ w) ≡ slice_set (x ∷ xs) (cond (not v) (1 + n) 0) new
  put_step new x xs w n later true h = refl
  put_step new x xs w n later false h = ap (λ (l : List X). x ∷ l) (later (omega arith)) ∙ sym (ap (λ k. slice_set (x ∷ xs) k new) (one_more n))

  put_at : (p : X → Bool) (new : X) (xs : List X) → position_or_len p xs < length xs → in_place p new xs ≡ slice_set xs (position_or_len p xs) new
  put_at p new [] h = absurd (omega arith)
  put_at p new (x ∷ xs) h = put_step new x xs (in_place p new xs) (position_or_len p xs) (put_at p new xs) (p x) h

  behind_step : (new x : X) (xs w : List X) (n : ℕ) → (length xs ≤ n → w ≡ xs ++ new ∷ []) → (v : Bool) → suc (length xs) ≤ cond (not v) (1 + n) 0 → cond v (new ∷ xs) (x ∷ w) ≡ (x ∷ xs) ++ new ∷ []
  behind_step new x xs w n later true h = absurd (omega arith)
  behind_step new x xs w n later false h = ap (λ (l : List X). x ∷ l) (later (omega arith))

  put_past : (p : X → Bool) (new : X) (xs : List X) → length xs ≤ position_or_len p xs → in_place p new xs ≡ xs ++ new ∷ []
  put_past p new [] h = refl
  put_past p new (x ∷ xs) h = behind_step new x xs (in_place p new xs) (position_or_len p xs) (put_past p new xs) (p x) h

  pub without_there : (p : X → Bool) (xs : List X) (i : ℕ) → position p xs ≡ Some i → without_first p xs ≡ remove xs i
  without_there p xs i e = let at = placed (position_or_len p xs) (length xs) i e in without_at p xs at.1 ∙ ap (remove xs) at.0

  pub without_none : (p : X → Bool) (xs : List X) → position p xs ≡ None → without_first p xs ≡ xs
  without_none p xs e = without_past p xs (unplaced (position_or_len p xs) (length xs) e)

  pub put_there : (p : X → Bool) (new : X) (xs : List X) (i : ℕ) → position p xs ≡ Some i → in_place p new xs ≡ slice_set xs i new
  put_there p new xs i e = let at = placed (position_or_len p xs) (length xs) i e in put_at p new xs at.1 ∙ ap (λ k. slice_set xs k new) at.0

  pub put_behind : (p : X → Bool) (new : X) (xs : List X) → position p xs ≡ None → in_place p new xs ≡ xs ++ new ∷ []
  put_behind p new xs e = put_past p new xs (unplaced (position_or_len p xs) (length xs) e)

  pub without_nobody : (xs : List X) → without_first (λ x. false) xs ≡ xs
  without_nobody [] = refl
  without_nobody (x ∷ xs) = ap (λ (l : List X). x ∷ l) (without_nobody xs)
