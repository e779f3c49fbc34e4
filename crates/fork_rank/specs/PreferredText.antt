-- Lists of preferred statuses: how they are spelled, and how they are read.
use Rattle.std.specs.Prelude.{ℕ, ◌&&◌, nat_lt, nat_le, Bool, true, bytes_eq, List, [], ◌∷◌, ◌++◌, length, codes, Option, Some, None, option_and_then, if◌then◌else◌}
use Rattle.std.specs.List.{list_all, slice_split, flat_map}
use Rattle.std.specs.Fmt.{decimal}
use Rattle.sip_lex.specs.Cut.{is}
use Rattle.sip_lex.specs.Number.{plain_number_within}

-- `-` for none, else the numbers with commas between them
abbrev pub list_text : List ℕ → List ℕ
list_text [] = 45 ∷ []
list_text (n ∷ ns) = decimal n ++ flat_map (λ m. 44 ∷ decimal m) ns

-- the numbers up to 499 between the commas, behind those read before
abbrev pub numbers_onto : List ℕ → List (List ℕ) → Option (List ℕ)
numbers_onto numbers [] = Some numbers
numbers_onto numbers (piece ∷ pieces) =
    option_and_then (λ n. numbers_onto (numbers ++ n ∷ []) pieces) (plain_number_within 499 piece)

abbrev pub rises_from : ℕ → List ℕ → Bool
rises_from n [] = true
rises_from n (m ∷ ms) = nat_lt n m && rises_from m ms

abbrev pub rises : List ℕ → Bool
rises [] = true
rises (n ∷ ns) = rises_from n ns

abbrev pub is_preferred_list : List ℕ → Bool
is_preferred_list statuses =
    nat_le (length statuses) 16 && list_all (λ status. nat_le 400 status && nat_lt status 500) statuses && rises statuses

abbrev pub preferred_if : List ℕ → Option (List ℕ)
preferred_if statuses = if is_preferred_list statuses then Some statuses else None

abbrev pub read_preferred : List ℕ → Option (List ℕ)
read_preferred text =
    if bytes_eq text (codes "-") then Some []
    else option_and_then preferred_if (numbers_onto [] (slice_split (is 44) text))
