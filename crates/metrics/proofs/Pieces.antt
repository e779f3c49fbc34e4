-- What is appended piece by piece.
use Rattle.std.proofs.Common.{◌≡◌, ℕ, List, ◌++◌, ap, ◌∙◌, append_assoc}

pub four : (old a b d e x y z w : List ℕ) → x ≡ old ++ a → y ≡ x ++ b → z ≡ y ++ d → w ≡ z ++ e → w ≡ old ++ (a ++ (b ++ (d ++ e)))
four old a b d e x y z w p q r s =
    s ∙ ap (λ (v : List ℕ). v ++ e) (r ∙ ap (λ (v : List ℕ). v ++ d) (q ∙ ap (λ (v : List ℕ). v ++ b) p)) ∙ regrouped old a b d e
  where
    regrouped : (old a b d e : List ℕ) → (((old ++ a) ++ b) ++ d) ++ e ≡ old ++ (a ++ (b ++ (d ++ e)))
    regrouped old a b d e = simp append_assoc

pub three : (old a b d x y z : List ℕ) → x ≡ old ++ a → y ≡ x ++ b → z ≡ y ++ d → z ≡ old ++ (a ++ (b ++ d))
three old a b d x y z p q r = r ∙ ap (λ (v : List ℕ). v ++ d) (q ∙ ap (λ (v : List ℕ). v ++ b) p) ∙ regrouped old a b d
  where
    regrouped : (old a b d : List ℕ) → ((old ++ a) ++ b) ++ d ≡ old ++ (a ++ (b ++ d))
    regrouped old a b d = simp append_assoc
