-- The pieces of a text, by cuts and by the whole text.
use Rattle.sip_lex.proofs.Common.{◌≡◌, ℕ, List, [], ◌∷◌, ◌++◌, Option, Some, None, refl, onto_first, flat_map, AllByRecursion, cut, is, behind, Lacks, arith}
use Rattle.std.proofs.Common.{◌≢◌}
use Rattle.sip_lex.specs.Pieces.{pieces, pieces_behind}
use Rattle.sip_lex.proofs.laws.Cuts.{cut_again}

abbrev Cut : Type 0
Cut = List ℕ × Option (List ℕ)

abbrev of_cut : ℕ → Cut → List (List ℕ)
of_cut mark c = c.0 ∷ pieces_behind mark c.1

onto-cut : (mark b : ℕ) (c : Cut) → onto_first b (of_cut mark c) ≡ of_cut mark (b ∷ c.0, c.1)
onto-cut mark b c = grind arith

-- the first piece, and the others
pub pieces-cut : (mark : ℕ) (bs : List ℕ) → pieces mark bs ≡ (cut (is mark) bs).0 ∷ pieces_behind mark (cut (is mark) bs).1
pieces-cut mark [] = refl
pieces-cut mark (b ∷ bs) = grind (arith, pieces-cut mark bs)

-- a piece behind its mark
abbrev pub marked : ℕ → List ℕ → List ℕ
marked mark piece = mark ∷ piece

pub onto : (mark b : ℕ) (parts : List (List ℕ)) (bs : List ℕ) → flat_map (marked mark) parts ≡ mark ∷ bs → flat_map (marked mark) (onto_first b parts) ≡ mark ∷ (b ∷ bs)
onto mark b parts bs h = grind arith

-- the pieces, each behind a mark, are the text behind one
pub pieces_join : (mark : ℕ) (bs : List ℕ) → flat_map (marked mark) (pieces mark bs) ≡ mark ∷ bs
pieces_join mark [] = refl
pieces_join mark (b ∷ bs) = grind (arith, pieces_join mark bs)

-- and behind nothing where there is no text
pub pieces_behind_join : (mark : ℕ) (bs : Option (List ℕ)) → flat_map (marked mark) (pieces_behind mark bs) ≡ behind mark bs
pieces_behind_join mark bs = grind (arith, pieces_join)

onto_lacks : (mark b : ℕ) (parts : List (List ℕ)) → b ≢ mark → AllByRecursion (Lacks mark) parts → AllByRecursion (Lacks mark) (onto_first b parts)
onto_lacks mark b parts h all = grind arith

-- each piece lacks the mark
pub pieces_lack : (mark : ℕ) (bs : List ℕ) → AllByRecursion (Lacks mark) (pieces mark bs)
pieces_lack mark [] = (tt, tt)
pieces_lack mark (b ∷ bs) = grind (arith, pieces_lack mark bs)

-- and what the text lacks
pub pieces_lack_other : (mark other : ℕ) (bs : List ℕ) → Lacks other bs → AllByRecursion (Lacks other) (pieces mark bs)
pieces_lack_other mark other [] h = (tt, tt)
pieces_lack_other mark other (b ∷ bs) h = grind (arith, pieces_lack_other mark other bs h.1)

-- the pieces joined, if there are any
abbrev pub joined : ℕ → List (List ℕ) → Option (List ℕ)
joined mark [] = None
joined mark (part ∷ parts) = Some (part ++ flat_map (marked mark) parts)

pub joined-behind : (mark : ℕ) (parts : List (List ℕ)) → flat_map (marked mark) parts ≡ behind mark (joined mark parts)
joined-behind mark parts = grind arith

-- what was joined is cut into these pieces
pub pieces_again : (mark : ℕ) (parts : List (List ℕ)) → AllByRecursion (Lacks mark) parts → pieces_behind mark (joined mark parts) ≡ parts
pieces_again mark [] all = refl
pieces_again mark (part ∷ parts) all = grind (arith, pieces-cut, joined-behind, cut_again, pieces_again mark parts all.1)
