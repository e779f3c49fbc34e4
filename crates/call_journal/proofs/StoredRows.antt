-- What a function gives of the elements of a list, one element more.
use Rattle.std.proofs.Common.{◌≡◌, ◌∙◌, ℕ, zero, suc, ◌+◌, ◌<◌, List, [], ◌∷◌, ◌++◌, Option, None, Some, ap, arith, length, take, refl}
use Rattle.std.specs.Prelude.{slice_get}
use Rattle.std.specs.List.{cons_option, filter_map}
use Rattle.std.specs.Option.{option_and_then, option_to_list}

first : {Y : Type 0} (o : Option Y) → cons_option o [] ≡ option_to_list o
first None = refl
first (Some y) = refl

behind : {Y : Type 0} (o : Option Y) (xs ys : List Y) → cons_option o (xs ++ ys) ≡ cons_option o xs ++ ys
behind None xs ys = refl
behind (Some y) xs ys = refl

taken : {X Y : Type 0} (f : X → Option Y) (xs : List X) (n : ℕ) → n < length xs
    → filter_map f (take (suc n) xs) ≡ filter_map f (take n xs) ++ option_to_list (option_and_then f (slice_get xs n))
taken f [] n lt = absurd (omega arith)
taken f (x ∷ xs) zero lt = first (f x)
taken f (x ∷ xs) (suc n) lt =
    ap (cons_option (f x)) (taken f xs n (omega arith)) ∙ behind (f x) (filter_map f (take n xs)) (option_to_list (option_and_then f (slice_get xs n)))

pub one_more : {X Y : Type 0} (f : X → Option Y) (xs : List X) (n : ℕ) → n < length xs
    → filter_map f (take (n + 1) xs) ≡ filter_map f (take n xs) ++ option_to_list (option_and_then f (slice_get xs n))
one_more f xs n lt = ap (λ k. filter_map f (take k xs)) (let e : n + 1 ≡ suc n = omega arith in e) ∙ taken f xs n lt
