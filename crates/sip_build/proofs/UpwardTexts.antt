-- Header lines of a response that goes upstream, in runs.
use Rattle.sip_build.proofs.Common.{◌≡◌, List, [], ◌++◌, sym, ap, ◌∙◌, append-nil, HeaderText, common_steps, arith}

abbrev Lines : Type 0
Lines = List HeaderText

pub row-one : (a t all : Lines) → a ++ [] ≡ all → a ++ (t ++ []) ≡ all ++ t
row-one a t all e = ap (λ (x : Lines). a ++ x) (append-nil t) ∙ ap (λ (x : Lines). x ++ t) (sym (append-nil a) ∙ e)

pub row-three : (a b d t all : Lines) → a ++ (b ++ d) ≡ all → a ++ (b ++ (d ++ (t ++ []))) ≡ all ++ t
row-three a b d t all e = grind (arith, common_steps)

-- three of them are a row of their own, and stand first
pub row-sooner : (a b d top after t whole all : Lines) → a ++ (b ++ d) ≡ whole → whole ++ (top ++ after) ≡ all → a ++ (b ++ (d ++ (top ++ (after ++ (t ++ []))))) ≡ all ++ t
row-sooner a b d top after t whole all e k = grind (arith, common_steps)

-- or last
pub row-later : (front top a b d t whole all : Lines) → a ++ (b ++ d) ≡ whole → front ++ (top ++ whole) ≡ all → front ++ (top ++ (a ++ (b ++ (d ++ (t ++ []))))) ≡ all ++ t
row-later front top a b d t whole all e k = grind (arith, common_steps)
