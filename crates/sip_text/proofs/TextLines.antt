-- The lines of a text up to the empty one, by the whole text.
use Rattle.sip_text.proofs.Common.{◌≡◌, ◌≢◌, ℕ, zero, suc, ◌<◌, List, [], ◌∷◌, ◌++◌, length, Option, Some, None, refl, sym, ap, subst, ◌∙◌, arith, flat_map, AllByRecursion, length-append, IsLine, ended, line_at, pieces, line_at-again}
use Rattle.sip_text.proofs.Common.{line_at-takes, IsFull, Lines, lines_at, with_line, common_steps}
use Rattle.sip_lex.proofs.laws.Lines.{TakesLine}
use Rattle.sip_text.proofs.laws.Good.{some_is}
use Rattle.sip_text.proofs.Tails.{Front, lines_at-line, lines_front}

-- ---- what is spelled so is read

empty_line : IsLine []
empty_line = record { no_cr = tt; no_lf = tt }

pub lines_again : (lines : List (List ℕ)) (rest : List ℕ) → AllByRecursion IsFull lines → lines_at (pieces 10 (flat_map ended lines ++ (ended [] ++ rest))) ≡ Some (lines, pieces 10 rest)
lines_again [] rest h = lines_at-line (ended [] ++ rest) ∙ ap lines_front (line_at-again [] rest empty_line)
lines_again (line ∷ lines) rest h = grind (arith, common_steps, lines_at-line, line_at-again, lines_again lines rest h.1)

-- ---- and what is read is spelled so

pub record Split (text : List ℕ) (x : Lines) : Type 0 where
  pub rest : List ℕ
  pub whole : text ≡ flat_map ended x.0 ++ (ended [] ++ rest)
  pub are_full : AllByRecursion IsFull x.0
  pub behind : pieces 10 rest ≡ x.1

abbrev Found : ℕ → Type 0
Found n = (text : List ℕ) (x : Lines) → length text < n → lines_at (pieces 10 text) ≡ Some x → Split text x

shorter : (text line after : List ℕ) → TakesLine text line after → length after < length text
shorter text line after t = omega (arith, ap length t.whole, length-append (ended line) after, length-append line (13 ∷ 10 ∷ []))

longer : (text line after : List ℕ) (y : Lines) → TakesLine text line after → (line ≢ []) → Split after y → Split text (line ∷ y.0, y.1)
longer text line after y t full s = grind (arith, common_steps)

with_line_takes : (text line after : List ℕ) (later : Option Lines) (x : Lines) → TakesLine text line after → (line ≢ []) → ((y : Lines) → later ≡ Some y → Split after y) → with_line line later ≡ Some x → Split text x
with_line_takes text line after later x t full s e = grind (arith, longer)

cons_full : (b : ℕ) (bs : List ℕ) → (b ∷ bs) ≢ []
cons_full b bs e = absurd cc

front_takes : (n : ℕ) → Found n → (text : List ℕ) (x : Lines) (front : Front) → length text < suc n → line_at text ≡ front → lines_front front ≡ Some x → Split text x
front_takes n all text x None lt at e = absurd cc
front_takes n all text x (Some ([], after)) lt at e =
    let t = line_at-takes text [] after at in
    subst (Split text) (some_is ([], pieces 10 after) x e) (record { rest = after; whole = t.whole; are_full = tt; behind = refl })
front_takes n all text x (Some (b ∷ bs, after)) lt at e =
    let t = line_at-takes text (b ∷ bs) after at in
    with_line_takes text (b ∷ bs) after (lines_at (pieces 10 after)) x t (cons_full b bs) (λ y h. all after y (omega (arith, shorter text (b ∷ bs) after t)) h) e

-- by the length of the text
below : (n : ℕ) → Found n
below zero text x lt e = absurd (omega arith)
below (suc n) text x lt e = front_takes n (below n) text x (line_at text) lt refl (sym (lines_at-line text) ∙ e)

pub lines_take : (text : List ℕ) (x : Lines) → lines_at (pieces 10 text) ≡ Some x → Split text x
lines_take text x e = below (suc (length text)) text x (omega arith) e
