-- A list built of what a function gives of each element, if it gives anything.
use Rattle.context_values.proofs.Common.{◌≡◌, ℕ, ◌+◌, ◌<◌, List, [], ◌∷◌, ◌++◌, length, take, get_or, Option, ap, ◌∙◌, take_more, filter_map, filter_map-append, option_to_list, common_steps, arith}

filter_map-push : {X Y : Type 0} (f : X → Option Y) (xs : List X) (x : X) → filter_map f (xs ++ x ∷ []) ≡ filter_map f xs ++ option_to_list (f x)
filter_map-push f xs x = grind (arith, common_steps, filter_map-append)

pub extras_more : {X Y : Type 0} (f : X → Option Y) (xs : List X) (i : ℕ) (x : X) → i < length xs
    → filter_map f (take (i + 1) xs) ≡ filter_map f (take i xs) ++ option_to_list (f (get_or xs i x))
extras_more f xs i x lt = ap (filter_map f) (take_more xs i x lt) ∙ filter_map-push f (take i xs) (get_or xs i x)

pub pushed_more : {X Y : Type 0} (f : X → Option Y) (xs : List X) (i : ℕ) (x : X) (done more : List Y)
    → i < length xs → x ≡ get_or xs i x → done ≡ filter_map f (take i xs) → more ≡ done ++ option_to_list (f x)
    → more ≡ filter_map f (take (i + 1) xs)
pushed_more f xs i x done more lt at so_far is = grind (arith, common_steps, extras_more)
