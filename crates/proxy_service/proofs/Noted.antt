-- What a function gives of the elements of a list, behind what stood there.
use Rattle.std.proofs.Common.{◌≡◌, ◌∙◌, ℕ, ◌+◌, ◌<◌, List, [], ◌∷◌, ◌++◌, Option, None, Some, ap, append_assoc, get_or, length, refl, sym, take}
use Rattle.std.proofs.lemmas.List.{take_more}
use Rattle.std.proofs.lemmas.List.Elements.{filter_map-append}
use Rattle.std.specs.List.{cons_option, filter_map}
use Rattle.std.specs.Option.{option_to_list}

alone : {Y : Type 0} (o : Option Y) → cons_option o [] ≡ option_to_list o
alone None = refl
alone (Some y) = refl

-- of one element more
pub noted_more : {X Y : Type 0} (f : X → Option Y) (xs : List X) (i : ℕ) (x : X) (initial done more : List Y) → i < length xs → x ≡ get_or xs i x
    → done ≡ initial ++ filter_map f (take i xs) → more ≡ done ++ option_to_list (f x) → more ≡ initial ++ filter_map f (take (i + 1) xs)
noted_more f xs i x initial done more lt at before is =
    let front = filter_map f (take i xs) in
    let here : filter_map f (take (i + 1) xs) ≡ front ++ option_to_list (f x) =
    ap (filter_map f) (take_more xs i x lt)
    ∙ filter_map-append f (take i xs) (get_or xs i x ∷ [])
    ∙ ap (λ o. front ++ o) (alone (f (get_or xs i x)))
    ∙ ap (λ y. front ++ option_to_list (f y)) (sym at) in
    is ∙ ap (λ l. l ++ option_to_list (f x)) before ∙ append_assoc initial front (option_to_list (f x)) ∙ ap (λ l. initial ++ l) (sym here)
