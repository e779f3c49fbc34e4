-- What a text ends with, and what stands in it.
use Rattle.sip_text.proofs.Common.{◌≡◌, ℕ, ◌-◌, ◌≤◌, Bool, List, [], ◌∷◌, ◌++◌, length, take, drop, Option, Some, None, refl, sym, ap, subst, ◌∙◌, append_assoc, arith, take-append-drop, cond_both, is_space, cut, common_steps, part_at}
use Rattle.std.proofs.lemmas.List.{drop-drop}
use Rattle.sip_lex.specs.declared.place.PartPlace.{PartPlace}
use Rattle.sip_text.specs.inner.Kept.{IsAt}
use Rattle.sip_lex.specs.Places.{IsEnd, IsWithin, moved}
use Rattle.sip_text.proofs.Places.{part_grown}

pub end_length : (text end : List ℕ) → IsEnd text end → length end ≤ length text
end_length text end (front, is) = grind (arith, common_steps)

pub take_whole : (xs : List ℕ) → take (length xs) xs ≡ xs
take_whole xs = grind (arith, common_steps)

drop_front : (front end : List ℕ) → drop (length (front ++ end) - length end) (front ++ end) ≡ end
drop_front front end = grind (arith, common_steps)

pub end_is : (text end : List ℕ) → IsEnd text end → drop (length text - length end) text ≡ end
end_is text end (front, is) = subst (λ (xs : List ℕ). drop (length xs - length end) xs ≡ end) (sym is) (drop_front front end)

pub end_part : (text end : List ℕ) (len : ℕ) → IsEnd text end → take len (drop (length text - length end) text) ≡ take len end
end_part text end len e = ap (take len) (end_is text end e)

-- ---- a part that stands somewhere in a text

pub at_front : (part more : List ℕ) → take (length part) (part ++ more) ≡ part
at_front part more = grind (arith, common_steps)

pub at_end : (text end part more : List ℕ) → end ≡ part ++ more → IsEnd text end → IsAt text (length text - length end) part
at_end text end part more e h = end_part text end (length part) h ∙ ap (take (length part)) e ∙ at_front part more

pub moved_part : (text line : List ℕ) (at : ℕ) (place : PartPlace) → IsAt text at line → IsWithin (length line) place → part_at text (moved at place) ≡ part_at line place
moved_part text line at place is within =
    let back = drop (length line) (drop at text) in
    let split : drop at text ≡ line ++ back = sym (take-append-drop (length line) (drop at text)) ∙ ap (λ (xs : List ℕ). xs ++ back) is in
    ap (take place.len) (sym (drop-drop place.start at text) ∙ ap (drop place.start) split) ∙ part_grown line back place within

-- ---- a cut at a space

abbrev joins : List ℕ → Option (List ℕ) → List ℕ → Type 0
joins front None text = text ≡ front
joins front (Some rest) text = (gap : ℕ) × (text ≡ front ++ gap ∷ rest)

joins_more : (b : ℕ) (front : List ℕ) (rest : Option (List ℕ)) (text : List ℕ) → joins front rest text → joins (b ∷ front) rest (b ∷ text)
joins_more b front None text e = ap (λ (xs : List ℕ). b ∷ xs) e
joins_more b front (Some rest) text (gap, e) = (gap, ap (λ (xs : List ℕ). b ∷ xs) e)

cut_joins_at : (p : ℕ → Bool) (text : List ℕ) → joins (cut p text).0 (cut p text).1 text
cut_joins_at p [] = refl
cut_joins_at p (b ∷ bs) =
    cond_both (p b) ([], Some bs) (b ∷ (cut p bs).0, (cut p bs).1) (λ (c : List ℕ × Option (List ℕ)). joins c.0 c.1 (b ∷ bs)) (λ e. (b, refl)) (λ e. joins_more b (cut p bs).0 (cut p bs).1 bs (cut_joins_at p bs))

joined_front : (text front : List ℕ) (rest : Option (List ℕ)) → joins front rest text → take (length front) text ≡ front
joined_front text front None e = grind (arith, common_steps)
joined_front text front (Some rest) (gap, e) = ap (take (length front)) e ∙ at_front front (gap ∷ rest)

joined_size : (text front : List ℕ) (rest : Option (List ℕ)) → joins front rest text → length front ≤ length text
joined_size text front None e = omega (arith, ap length e)
joined_size text front (Some rest) (gap, e) = grind (arith, common_steps)

abbrev Cut : Type 0
Cut = List ℕ × Option (List ℕ)

cut_joined : (text front : List ℕ) (rest : Option (List ℕ)) → (front, rest) ≡ cut is_space text → joins front rest text
cut_joined text front rest e = subst (λ (c : Cut). joins c.0 c.1 text) (sym e) (cut_joins_at is_space text)

pub cut_front : (text front : List ℕ) (rest : Option (List ℕ)) → (front, rest) ≡ cut is_space text → IsAt text 0 front
cut_front text front rest e = joined_front text front rest (cut_joined text front rest e)

pub cut_end : (text front rest : List ℕ) → (front, Some rest) ≡ cut is_space text → IsEnd text rest
cut_end text front rest e =
    let h : joins front (Some rest) text = cut_joined text front (Some rest) e in
    (front ++ h.0 ∷ [], h.1 ∙ sym (append_assoc front (h.0 ∷ []) rest))

pub cut_size : (text front : List ℕ) (rest : Option (List ℕ)) → (front, rest) ≡ cut is_space text → length front ≤ length text
cut_size text front rest e = joined_size text front rest (cut_joined text front rest e)
