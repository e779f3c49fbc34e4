-- Parts of a text by their places, and what a text ends with.
use Rattle.sip_lex.proofs.Common.{◌≡◌, ℕ, ◌+◌, ◌-◌, ◌≤◌, List, ◌++◌, length, take, drop, sym, ap, ◌∙◌, arith, common_steps, take-append-drop, take_rest}
use Rattle.std.proofs.Common.{append_assoc, min}
use Rattle.std.proofs.lemmas.List.{drop-drop, drop-take, take-take}
use Rattle.sip_lex.specs.Places.{IsEnd}

min_take : (m n : ℕ) (xs : List ℕ) → take (min m n) xs ≡ take m (take n xs)
min_take m n xs = grind (arith, common_steps, take-take)

skipped_part : (len skip start : ℕ) (text : List ℕ) → skip ≤ len → take (len - skip) (drop (start + skip) text) ≡ drop skip (take len (drop start text))
skipped_part len skip start text h =
    let rest = len - skip in
    let sum : len ≡ skip + rest = omega arith in
    sym (ap (take rest) (drop-drop skip start text)) ∙ sym (drop-take skip rest (drop start text)) ∙ ap (λ n. drop skip (take n (drop start text))) (sym sum)

-- where less is there than is skipped, nothing is left
skipped_all : (len skip start : ℕ) (text : List ℕ) → len ≤ skip → take (len - len) (drop (start + len) text) ≡ drop skip (take len (drop start text))
skipped_all len skip start text h = grind (arith, common_steps)

pub part_of_part : (start len skip more skipped : ℕ) (text : List ℕ) → skipped ≡ min skip len → take (min more (len - skipped)) (drop (start + skipped) text) ≡ take more (drop skip (take len (drop start text)))
part_of_part start len skip more skipped text e = grind (arith, min_take, skipped_part, skipped_all)

-- ---- ends

pub end_later : (text end front rest : List ℕ) → end ≡ front ++ rest → IsEnd text end → IsEnd text rest
end_later text end front rest e (before, is) = (before ++ front, is ∙ ap (λ (xs : List ℕ). before ++ xs) e ∙ sym (append_assoc before front rest))

pub end_dropped : (text end : List ℕ) (n : ℕ) → IsEnd text end → IsEnd text (take (length end - n) (drop n end))
end_dropped text end n h =
    let rest : take (length end - n) (drop n end) ≡ drop n end = take_rest end n in
    end_later text end (take n end) (take (length end - n) (drop n end)) (sym (take-append-drop n end) ∙ ap (λ (xs : List ℕ). take n end ++ xs) (sym rest)) h
