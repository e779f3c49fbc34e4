-- The line at the front of a text, by its first CR or LF.
use Rattle.sip_lex.proofs.Common.{◌≡◌, ℕ, ◌+◌, Bool, true, false, List, [], ◌∷◌, take, drop, Option, Some, None, refl, sym, ap, ◌∙◌, arith, position, cut, is, common_steps}
use Rattle.std.specs.Prelude.{◌==◌}
use Rattle.std.specs.Option.{option_map}
use Rattle.sip_lex.specs.Line.{line_at, line_at_cut, line_of_cut, with_rest}
use Rattle.sip_lex.specs.inner.LineEnds.{before_end, is_end, line_before}

abbrev Cut : Type 0
Cut = List ℕ × Option (List ℕ)

abbrev onto : ℕ → Option (List ℕ × List ℕ) → Option (List ℕ × List ℕ)
onto b None = None
onto b (Some p) = Some (b ∷ p.0, p.1)

onto_line : (b : ℕ) (c : Cut) (after : List ℕ) → with_rest (line_of_cut (b ∷ c.0, c.1)) after ≡ onto b (with_rest (line_of_cut c) after)
onto_line b (line, None) after = refl
onto_line b (line, Some []) after = refl
onto_line b (line, Some (x ∷ xs)) after = refl

onto_cut : (b : ℕ) (c : Cut) → (b == 13) ≡ false → line_at_cut (b ∷ c.0, c.1) ≡ onto b (line_at_cut c)
onto_cut b (piece, None) e = refl
onto_cut b (piece, Some after) e =
    let cuts : cut (is 13) (b ∷ piece) ≡ (b ∷ (cut (is 13) piece).0, (cut (is 13) piece).1) = grind (arith, common_steps) in
    ap (λ c. with_rest (line_of_cut c) after) cuts ∙ onto_line b (cut (is 13) piece) after

-- a byte that is no end goes to the front of the line
onto_front : (b : ℕ) (bs : List ℕ) → is_end b ≡ false → line_at (b ∷ bs) ≡ onto b (line_at bs)
onto_front b bs e =
    let cuts : cut (is 10) (b ∷ bs) ≡ (b ∷ (cut (is 10) bs).0, (cut (is 10) bs).1) = grind (arith, common_steps) in
    ap line_at_cut cuts ∙ onto_cut b (cut (is 10) bs) (grind (arith, common_steps))

onto_end : (b : ℕ) (line end : List ℕ) → onto b (before_end line end) ≡ before_end (b ∷ line) end
onto_end b line [] = refl
onto_end b line (c ∷ []) = refl
onto_end b line (c ∷ d ∷ after) = grind (arith, common_steps)

onto_before : (b : ℕ) (at : Option ℕ) (bs : List ℕ) → onto b (line_before at bs) ≡ line_before (option_map (λ n. 1 + n) at) (b ∷ bs)
onto_before b None bs = refl
onto_before b (Some at) bs =
    let taken : take (1 + at) (b ∷ bs) ≡ b ∷ take at bs = grind (arith, common_steps) in
    let dropped : drop (1 + at) (b ∷ bs) ≡ drop at bs = grind (arith, common_steps) in
    onto_end b (take at bs) (drop at bs) ∙ sym (ap (λ line. before_end line (drop at bs)) taken) ∙ sym (ap (λ end. before_end (take (1 + at) (b ∷ bs)) end) dropped)

next_place : (b : ℕ) (bs : List ℕ) → is_end b ≡ false → position is_end (b ∷ bs) ≡ option_map (λ n. 1 + n) (position is_end bs)
next_place b bs e = grind (arith, common_steps)

first_place : (b : ℕ) (bs : List ℕ) → is_end b ≡ true → position is_end (b ∷ bs) ≡ Some 0
first_place b bs e = grind (arith, common_steps)

-- an end that stands first ends a line where it is a CR, and an LF stands behind it
at_piece : (b : ℕ) (bs : List ℕ) → is_end b ≡ true → line_at (b ∷ bs) ≡ before_end [] (b ∷ bs)
at_piece b [] e = grind (arith, common_steps)
at_piece b (c ∷ cs) e = grind (arith, common_steps)

by_first : (b : ℕ) (bs : List ℕ) (ends : Bool) → is_end b ≡ ends → line_at bs ≡ line_before (position is_end bs) bs
    → line_at (b ∷ bs) ≡ line_before (position is_end (b ∷ bs)) (b ∷ bs)
by_first b bs true e h = at_piece b bs e ∙ sym (ap (λ at. line_before at (b ∷ bs)) (first_place b bs e))
by_first b bs false e h = onto_front b bs e ∙ ap (onto b) h ∙ onto_before b (position is_end bs) bs ∙ sym (ap (λ at. line_before at (b ∷ bs)) (next_place b bs e))

pub by_end : (bs : List ℕ) → line_at bs ≡ line_before (position is_end bs) bs
by_end [] = refl
by_end (b ∷ bs) = by_first b bs (is_end b) refl (by_end bs)

pub line_is : (text : List ℕ) (at : ℕ) → position is_end text ≡ Some at → line_at text ≡ before_end (take at text) (drop at text)
line_is text at e = by_end text ∙ ap (λ place. line_before place text) e
