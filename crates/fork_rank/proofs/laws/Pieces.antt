-- The pieces of a text, one cut at a time.
use Rattle.fork_rank.proofs.TextCommon.{◌≡◌, ℕ, false, List, [], ◌∷◌, Option, refl, sym, ap, ◌∙◌, slice_split, cut, is, is_empty, arith}
use Rattle.fork_rank.specs.inner.Pieces.{pieces_of}

abbrev Cut : Type 0
Cut = List ℕ × Option (List ℕ)

slice_split-cut : (mark : ℕ) (bs : List ℕ) → slice_split (is mark) bs ≡ pieces_of mark (cut (is mark) bs)
slice_split-cut mark [] = refl
slice_split-cut mark (b ∷ bs) = grind (arith, slice_split-cut mark bs)

pub pieces-cut : (mark : ℕ) (bs : List ℕ) (c : Cut) → c ≡ cut (is mark) bs → slice_split (is mark) bs ≡ pieces_of mark c
pieces-cut mark bs c e = slice_split-cut mark bs ∙ ap (pieces_of mark) (sym e)

is_empty-pieces : (mark : ℕ) (c : Cut) → is_empty (pieces_of mark c) ≡ false
is_empty-pieces mark c = grind arith

pub is_empty-slice_split : (mark : ℕ) (bs : List ℕ) → is_empty (slice_split (is mark) bs) ≡ false
is_empty-slice_split mark bs = ap is_empty (slice_split-cut mark bs) ∙ is_empty-pieces mark (cut (is mark) bs)
