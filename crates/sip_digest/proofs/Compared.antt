-- Texts compared byte by byte.
use Rattle.sip_digest.proofs.Common.{◌≡◌, ℕ, ◌+◌, ◌<◌, eqb, List, [], ◌∷◌, ◌++◌, length, take, drop, get_or, refl, ap, ◌∙◌, arith, common_steps, bytes_eq, ◌&&◌}
use Rattle.std.proofs.lemmas.List.{drop_more}

-- from one byte to the next
pub same_next : (xs ys : List ℕ) (i : ℕ) → i < length xs → i < length ys → bytes_eq (drop i xs) (drop i ys) ≡ (eqb (get_or xs i 0) (get_or ys i 0) && bytes_eq (drop (i + 1) xs) (drop (i + 1) ys))
same_next xs ys i l m =
    ap (λ (t : List ℕ). bytes_eq t (drop i ys)) (drop_more xs i 0 l) ∙ ap (λ (t : List ℕ). bytes_eq (get_or xs i 0 ∷ drop (i + 1) xs) t) (drop_more ys i 0 m)

-- a text is two others one behind the other where its parts are
pub same_joined : (text front back : List ℕ) → bytes_eq text (front ++ back) ≡ (bytes_eq (take (length front) text) front && bytes_eq (drop (length front) text) back)
same_joined text [] back = refl
same_joined [] (f ∷ front) back = refl
same_joined (t ∷ text) (f ∷ front) back = grind (arith, common_steps, same_joined text front back)
